-- `one_voxel::zoom_voxel` meets its contract.
use Prim.Native.Nat.{ℕ}
use mathlib.Core.Path.{◌≡◌, sym, subst, ◌∙◌}
use mathlib.Core.List.{List}
use lib.Dec.{lit≤}
use lib.ListN.{length}
use Rattle.request.specs.declared.Axes.{Axes}
use Rattle.request.specs.Sizes.{zoom_dims, zoom_axes}
use Rattle.request.specs.Bookkeeping.{Lengths, Zoomed}
use Rattle.refusal.specs.declared.Asked.TheVariants.{Voxel}
use Rattle.refusal.specs.Refusals.{first, zoom_checks, index_checks, zoom_voxel_checks}
use Rattle.refusal.specs.Bookkeeping.{Admitted, Passes}
use Rattle.refusal.proofs.Firsts.{passed_both, passed_up}
use Rattle.refusal.proofs.Admitting.{zoom_passes, zoom_ready, good_indices}
use Rattle.one_voxel.specs.Call.{zoom_voxel_call, voxel_of}
use Rattle.one_voxel.specs.Bookkeeping.{Inside}
use Rattle.one_voxel.proofs.Voxels.{voxel_passed, voxel_refused}
use Rattle.one_voxel.proofs.zoom_voxel.Goals.{In_ok-zoom_voxel_verdict}
use Rattle.one_voxel.proofs.zoom_voxel.Goals as goal
use Rattle.std.specs.Prelude.{Ok}

-- nothing was refused
module _ (c : In_ok-zoom_voxel_verdict) where
  cleared : first (zoom_voxel_checks c.args.r c.args.input.now (length c.args.value.now) (length c.args.code.now) (length c.args.work.now) c.args.at) ≡ Ok tt
  cleared = sym c.zoom_voxel_verdict.ensures ∙ c.in_ok-zoom_voxel_verdict.was

  both : (first (zoom_checks Voxel c.args.r c.args.input.now (length c.args.value.now) (length c.args.code.now) (length c.args.work.now)) ≡ Ok tt) × (first (index_checks (zoom_dims c.args.r) c.args.at) ≡ Ok tt)
  both = passed_both (zoom_checks Voxel c.args.r c.args.input.now (length c.args.value.now) (length c.args.code.now) (length c.args.work.now)) (index_checks (zoom_dims c.args.r) c.args.at) cleared

  passes : Passes c.args.r (zoom_axes c.args.r) 1 (length c.args.input.now) (length c.args.value.now) (length c.args.code.now) (length c.args.work.now)
  passes = zoom_passes Voxel c.args.r c.args.input.now (length c.args.value.now) (length c.args.code.now) (length c.args.work.now) both.0

  inside : Inside (zoom_axes c.args.r) c.args.at
  inside = let h = good_indices (zoom_dims c.args.r) c.args.at both.1 in record { x = h 0 (lit≤ tt); y = h 1 (lit≤ tt); z = h 2 (lit≤ tt) }

  ready : Zoomed c.args.r × Lengths (zoom_dims c.args.r)
  ready = zoom_ready Voxel c.args.r c.args.input.now (length c.args.value.now) (length c.args.code.now) (length c.args.work.now) both.0

pub zoom_dims-requires : goal.zoom_dims-requires
zoom_dims-requires c = (ready c).0

pub zoom_axes-a-requires : goal.zoom_axes-a-requires
zoom_axes-a-requires c = record { lengths = (passes (goal.at.zoom_axes-a-requires c).In_ok-zoom_voxel_verdict).admitted.lengths; out_value = (c.zoom_dims.ensures, subst (λ (d : List ℕ). Lengths d) (sym c.zoom_dims.ensures) (ready (goal.at.zoom_axes-a-requires c).In_ok-zoom_voxel_verdict).1) }

pub voxel_of-requires : goal.voxel_of-requires
voxel_of-requires c =
    let axes = c.zoom_axes-a.ensures in record { admitted = subst (λ (x : Axes). Admitted c.args.r x (length c.args.input.now)) (sym axes) (passes (goal.at.voxel_of-requires c).In_ok-zoom_voxel_verdict).admitted; r_in_bounds = (passes (goal.at.voxel_of-requires c).In_ok-zoom_voxel_verdict).room; inside = subst (λ (x : Axes). Inside x c.args.at) (sym axes) (inside (goal.at.voxel_of-requires c).In_ok-zoom_voxel_verdict) }

pub put-requires : goal.put-requires
put-requires c = let p = passes (goal.at.put-requires c).In_ok-zoom_voxel_verdict in (p.values, p.codes)

pub returns : goal.returns
unfolding zoom_voxel_call
returns c =
    let a = c.args in
    voxel_passed a.value.now a.code.now a.r a.input.now a.work.now a.at c.zoom_axes-a.result (zoom_axes a.r) (cleared (goal.at.returns c).In_ok-zoom_voxel_verdict) c.zoom_axes-a.ensures c.voxel_of.ensures c.put.ensures.0 c.put.ensures.1

pub returns-in_err-zoom_voxel_verdict : goal.returns-in_err-zoom_voxel_verdict
unfolding zoom_voxel_call
returns-in_err-zoom_voxel_verdict c =
    let a = c.args in
    rw (passed_up _ c.from_residual.ensures.1) (voxel_refused a.value.now a.code.now (voxel_of a.r (zoom_axes a.r) a.input.now a.work.now a.at) _ (sym c.zoom_voxel_verdict.ensures ∙ c.in_err-zoom_voxel_verdict.was))
