-- `one_voxel::value::computed_at` meets its contract: at order 0 the one voxel is copied, else the sum is taken.
use Prim.Native.Nat.{◌*◌}
use mathlib.Core.Path.{refl, ◌∙◌}
use Rattle.voxels.specs.Voxel.{tap_of}
use native.Mathlib.Omega.{arith}
use lib.ListN.{get_or}
use lib.Ieee.{nan}
use Rattle.lists.proofs.Stretches.{in_part}
use Rattle.voxels.proofs.Sums.{within}
use Rattle.voxels.proofs.Sweeping.{computed_copy, computed-sum}
use Rattle.one_voxel.proofs.value.computed_at.Goals as goal

pub returns-then-source-eq0 : goal.returns-then-source-eq0
returns-then-source-eq0 c =
    let r = c.args.r.now in
    let s = r.source in
    rw (c.plane_at.ensures.places, c.row_at.ensures.start) (in_part nan s.numbers.now (get_or r.x.now.at 0 0 * s.plane) s.plane _ (within _ _ _ _ (omega (arith, r.places 0 (omega arith))) (r.in_source.rows 0 (omega arith))))
    ∙ computed_copy s.order s.numbers.now s.plane s.row (tap_of r.x.now) (tap_of r.y.now) (tap_of r.z.now) c.if-source-eq0.true refl

pub returns-else-source-eq0 : goal.returns-else-source-eq0
returns-else-source-eq0 c =
    let r = c.args.r.now in
    let s = r.source in
    c.sum_at.ensures ∙ computed-sum s.order s.numbers.now s.plane s.row (tap_of r.x.now) (tap_of r.y.now) (tap_of r.z.now) c.if-source-eq0.false
