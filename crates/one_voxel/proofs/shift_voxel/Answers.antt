-- `one_voxel::shift_voxel` meets its contract.
use mathlib.Core.Path.{◌≡◌, sym, subst, ◌∙◌}
use lib.Dec.{lit≤}
use lib.ListN.{length}
use Rattle.request.specs.declared.Axes.{Axes}
use Rattle.request.specs.Sizes.{shift_axes}
use Rattle.refusal.specs.declared.Asked.TheVariants.{Voxel}
use Rattle.refusal.specs.Refusals.{first, shift_checks, index_checks, shift_voxel_checks}
use Rattle.refusal.specs.Bookkeeping.{Admitted, Passes}
use Rattle.refusal.proofs.Firsts.{passed_both, passed_up}
use Rattle.refusal.proofs.Admitting.{shift_passes, good_indices}
use Rattle.one_voxel.specs.Call.{shift_voxel_call, voxel_of}
use Rattle.one_voxel.specs.Bookkeeping.{Inside}
use Rattle.one_voxel.proofs.Voxels.{voxel_passed, voxel_refused}
use Rattle.one_voxel.proofs.shift_voxel.Goals.{In_ok-shift_voxel_verdict}
use Rattle.one_voxel.proofs.shift_voxel.Goals as goal
use Rattle.std.specs.Prelude.{Ok}

-- nothing was refused
module _ (c : In_ok-shift_voxel_verdict) where
  cleared : first (shift_voxel_checks c.args.r c.args.input.now (length c.args.value.now) (length c.args.code.now) (length c.args.work.now) c.args.at) ≡ Ok tt
  cleared = sym c.shift_voxel_verdict.ensures ∙ c.in_ok-shift_voxel_verdict.was

  both : (first (shift_checks Voxel c.args.r c.args.input.now (length c.args.value.now) (length c.args.code.now) (length c.args.work.now)) ≡ Ok tt) × (first (index_checks c.args.r.dims c.args.at) ≡ Ok tt)
  both = passed_both (shift_checks Voxel c.args.r c.args.input.now (length c.args.value.now) (length c.args.code.now) (length c.args.work.now)) (index_checks c.args.r.dims c.args.at) cleared

  passes : Passes c.args.r (shift_axes c.args.r) 1 (length c.args.input.now) (length c.args.value.now) (length c.args.code.now) (length c.args.work.now)
  passes = shift_passes Voxel c.args.r c.args.input.now (length c.args.value.now) (length c.args.code.now) (length c.args.work.now) both.0

  inside : Inside (shift_axes c.args.r) c.args.at
  inside = let h = good_indices c.args.r.dims c.args.at both.1 in record { x = h 0 (lit≤ tt); y = h 1 (lit≤ tt); z = h 2 (lit≤ tt) }

pub shift_axes-requires : goal.shift_axes-requires
shift_axes-requires c = (passes (goal.at.shift_axes-requires c).In_ok-shift_voxel_verdict).admitted.lengths

pub voxel_of-requires : goal.voxel_of-requires
voxel_of-requires c =
    let axes = c.shift_axes.ensures in record { admitted = subst (λ (x : Axes). Admitted c.args.r x (length c.args.input.now)) (sym axes) (passes (goal.at.voxel_of-requires c).In_ok-shift_voxel_verdict).admitted; r_in_bounds = (passes (goal.at.voxel_of-requires c).In_ok-shift_voxel_verdict).room; inside = subst (λ (x : Axes). Inside x c.args.at) (sym axes) (inside (goal.at.voxel_of-requires c).In_ok-shift_voxel_verdict) }

pub put-requires : goal.put-requires
put-requires c = let p = passes (goal.at.put-requires c).In_ok-shift_voxel_verdict in (p.values, p.codes)

pub returns : goal.returns
unfolding shift_voxel_call
returns c =
    let a = c.args in
    voxel_passed a.value.now a.code.now a.r a.input.now a.work.now a.at c.shift_axes.result (shift_axes a.r) (cleared (goal.at.returns c).In_ok-shift_voxel_verdict) c.shift_axes.ensures c.voxel_of.ensures c.put.ensures.0 c.put.ensures.1

pub returns-in_err-shift_voxel_verdict : goal.returns-in_err-shift_voxel_verdict
unfolding shift_voxel_call
returns-in_err-shift_voxel_verdict c =
    let a = c.args in
    rw (passed_up _ c.from_residual.ensures.1) (voxel_refused a.value.now a.code.now (voxel_of a.r (shift_axes a.r) a.input.now a.work.now a.at) _ (sym c.shift_voxel_verdict.ensures ∙ c.in_err-shift_voxel_verdict.was))
