-- `one_voxel::sum::sum_at` meets its contract: the sums of the first k neighbours on the last axis, from 0.0 on.
use Prim.Native.Nat.{◌+◌}
use mathlib.Core.Path.{◌≡◌, refl}
use native.Mathlib.Omega.{arith}
use lib.Ieee.{of_bits, of_int}
use Rattle.voxels.specs.Sum.{sum_z, sum_at}
use Rattle.voxels.proofs.Sums.{turn_z}
use Rattle.one_voxel.proofs.sum.sum_at.Goals as goal

pub loop-k-init : goal.loop-k-init
unfolding sum_z of_bits of_int
loop-k-init c = refl

pub loop-k-preserved : goal.loop-k-preserved
loop-k-preserved c = turn_z _ _ _ _ _ _ _ _ c.loop-k.invariant refl refl c.add_y-t.ensures

pub returns : goal.returns
unfolding sum_at
returns c =
    let e : c.loop-k.k ≡ c.args.r.now.source.order + 1 = omega arith in
    rw e at c.loop-k.invariant
