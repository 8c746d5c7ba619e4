-- `one_voxel::point::zoom_point` meets its contract.
use Prim.Native.Nat.{◌≤◌}
use mathlib.Core.Path.{◌≡◌, sym, subst, ◌∙◌}
use native.Mathlib.Omega.{arith}
use lib.ListN.{length}
use Rattle.axis.specs.declared.coordinate.Axis.{Axis}
use Rattle.axis.specs.Coordinate.{pad_of, zoom_axis}
use Rattle.axis.specs.Length.{output_length}
use Rattle.axis.specs.Bookkeeping.{Zooms, Reached}
use Rattle.axis.proofs.Coordinates.{pad_most}
use Rattle.refusal.specs.Refusals.{first, zoom_point_checks}
use Rattle.refusal.proofs.Firsts.{passed_up}
use Rattle.refusal.proofs.Pointing.{Noted, zoom_point_passes, zoom_point_ready}
use Rattle.one_voxel.specs.Points.{zoom_point_call}
use Rattle.one_voxel.proofs.Points.{point_passed, point_refused}
use Rattle.one_voxel.proofs.point.zoom_point.Goals.{After-zoom_axis-a, In_ok-zoom_point_verdict}
use Rattle.one_voxel.proofs.point.zoom_point.Goals as goal
use Rattle.std.specs.Prelude.{Ok}

-- nothing was refused
module _ (c : In_ok-zoom_point_verdict) where
  abbrev axis : Axis
  axis = zoom_axis c.args.length (output_length c.args.length c.args.factor) (pad_of c.args.mode c.args.prefilter c.args.order c.args.length)

  cleared : first (zoom_point_checks c.args.length c.args.factor c.args.order c.args.prefilter c.args.mode c.args.i (length c.args.coordinate.now) (length c.args.at.now) (length c.args.weight.now)) ≡ Ok tt
  cleared = sym c.zoom_point_verdict.ensures ∙ c.in_ok-zoom_point_verdict.was

  noted : Noted c.args.length c.args.order axis c.args.i (length c.args.coordinate.now) (length c.args.at.now) (length c.args.weight.now)
  noted = zoom_point_passes c.args.length c.args.factor c.args.order c.args.prefilter c.args.mode c.args.i (length c.args.coordinate.now) (length c.args.at.now) (length c.args.weight.now) cleared

  ready : Zooms c.args.length c.args.factor × (1 ≤ output_length c.args.length c.args.factor)
  ready = zoom_point_ready c.args.length c.args.factor c.args.order c.args.prefilter c.args.mode c.args.i (length c.args.coordinate.now) (length c.args.at.now) (length c.args.weight.now) cleared

pub output_length-requires : goal.output_length-requires
output_length-requires c = (ready c).0

pub zoom_axis-a-requires : goal.zoom_axis-a-requires
zoom_axis-a-requires c =
    let a = c.args in
    ((omega (arith, (noted (goal.at.zoom_axis-a-requires c).In_ok-zoom_point_verdict).least), (noted (goal.at.zoom_axis-a-requires c).In_ok-zoom_point_verdict).most), (omega (arith, (ready (goal.at.zoom_axis-a-requires c).In_ok-zoom_point_verdict).1, c.output_length.ensures), pad_most a.mode a.prefilter a.order a.length c.pad_of.ensures))

-- the axis that is made is the specified one
made : (c : After-zoom_axis-a) → c.zoom_axis-a.result ≡ zoom_axis c.args.length (output_length c.args.length c.args.factor) (pad_of c.args.mode c.args.prefilter c.args.order c.args.length)
made c = let a = c.args in c.zoom_axis-a.ensures ∙ (λ t. zoom_axis a.length (c.output_length.ensures t) (c.pad_of.ensures t))

pub put_point-requires : goal.put_point-requires
put_point-requires c =
    let n = noted (goal.at.put_point-requires c).In_ok-zoom_point_verdict in record { reached = subst (λ (x : Axis). Reached c.args.order x c.args.i) (sym (made (goal.at.put_point-requires c).After-zoom_axis-a)) n.reached; coordinate_len = (n.one, (n.neighbours, n.weights)) }

pub returns : goal.returns
unfolding zoom_point_call
returns c =
    let a = c.args in
    point_passed a.order a.mode (axis (goal.at.returns c).In_ok-zoom_point_verdict) a.i a.coordinate.now a.at.now a.weight.now c.zoom_axis-a.result (cleared (goal.at.returns c).In_ok-zoom_point_verdict) (made (goal.at.returns c).After-zoom_axis-a) c.put_point.ensures

pub returns-in_err-zoom_point_verdict : goal.returns-in_err-zoom_point_verdict
unfolding zoom_point_call
returns-in_err-zoom_point_verdict c =
    let a = c.args in
    rw (passed_up _ c.from_residual.ensures.1) (point_refused a.order a.mode (zoom_axis a.length (output_length a.length a.factor) (pad_of a.mode a.prefilter a.order a.length)) a.i a.coordinate.now a.at.now a.weight.now _ (sym c.zoom_point_verdict.ensures ∙ c.in_err-zoom_point_verdict.was))
