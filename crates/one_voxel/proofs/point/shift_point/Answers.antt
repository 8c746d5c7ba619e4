-- `one_voxel::point::shift_point` meets its contract.
use Prim.Native.Nat.{ℕ}
use mathlib.Core.Path.{◌≡◌, sym, ap, subst, ◌∙◌}
use lib.ListN.{length}
use Rattle.axis.specs.declared.coordinate.Axis.{Axis}
use Rattle.axis.specs.Coordinate.{pad_of, shift_axis}
use Rattle.axis.specs.Bookkeeping.{Reached}
use Rattle.axis.proofs.Coordinates.{pad_most}
use Rattle.refusal.specs.Refusals.{first, shift_point_checks}
use Rattle.refusal.proofs.Firsts.{passed_up}
use Rattle.refusal.proofs.Pointing.{Noted, shift_point_passes}
use Rattle.one_voxel.specs.Points.{shift_point_call}
use Rattle.one_voxel.proofs.Points.{point_passed, point_refused}
use Rattle.one_voxel.proofs.point.shift_point.Goals.{After-shift_axis-a, In_ok-shift_point_verdict}
use Rattle.one_voxel.proofs.point.shift_point.Goals as goal
use Rattle.std.specs.Prelude.{Ok}

-- nothing was refused
module _ (c : In_ok-shift_point_verdict) where
  abbrev axis : Axis
  axis = shift_axis c.args.length c.args.shift (pad_of c.args.mode c.args.prefilter c.args.order c.args.length)

  cleared : first (shift_point_checks c.args.length c.args.shift c.args.order c.args.prefilter c.args.mode c.args.i (length c.args.coordinate.now) (length c.args.at.now) (length c.args.weight.now)) ≡ Ok tt
  cleared = sym c.shift_point_verdict.ensures ∙ c.in_ok-shift_point_verdict.was

  noted : Noted c.args.length c.args.order axis c.args.i (length c.args.coordinate.now) (length c.args.at.now) (length c.args.weight.now)
  noted = shift_point_passes c.args.length c.args.shift c.args.order c.args.prefilter c.args.mode c.args.i (length c.args.coordinate.now) (length c.args.at.now) (length c.args.weight.now) cleared

pub shift_axis-a-requires : goal.shift_axis-a-requires
shift_axis-a-requires c = let a = c.args in ((noted (goal.at.shift_axis-a-requires c).In_ok-shift_point_verdict).most, pad_most a.mode a.prefilter a.order a.length c.pad_of.ensures)

-- the axis that is made is the specified one
made : (c : After-shift_axis-a) → c.shift_axis-a.result ≡ shift_axis c.args.length c.args.shift (pad_of c.args.mode c.args.prefilter c.args.order c.args.length)
made c = let a = c.args in c.shift_axis-a.ensures ∙ ap (λ (p : ℕ). shift_axis a.length a.shift p) c.pad_of.ensures

pub put_point-requires : goal.put_point-requires
put_point-requires c =
    let n = noted (goal.at.put_point-requires c).In_ok-shift_point_verdict in record { reached = subst (λ (x : Axis). Reached c.args.order x c.args.i) (sym (made (goal.at.put_point-requires c).After-shift_axis-a)) n.reached; coordinate_len = (n.one, (n.neighbours, n.weights)) }

pub returns : goal.returns
unfolding shift_point_call
returns c =
    let a = c.args in
    point_passed a.order a.mode (axis (goal.at.returns c).In_ok-shift_point_verdict) a.i a.coordinate.now a.at.now a.weight.now c.shift_axis-a.result (cleared (goal.at.returns c).In_ok-shift_point_verdict) (made (goal.at.returns c).After-shift_axis-a) c.put_point.ensures

pub returns-in_err-shift_point_verdict : goal.returns-in_err-shift_point_verdict
unfolding shift_point_call
returns-in_err-shift_point_verdict c =
    let a = c.args in
    rw (passed_up _ c.from_residual.ensures.1) (point_refused a.order a.mode (shift_axis a.length a.shift (pad_of a.mode a.prefilter a.order a.length)) a.i a.coordinate.now a.at.now a.weight.now _ (sym c.shift_point_verdict.ensures ∙ c.in_err-shift_point_verdict.was))
