-- `one_voxel::sum::sum_at` meets its contract: the sums of the first k neighbours on the last axis, from 0.0 on.
use Prim.Native.Nat.{◌+◌}
use mathlib.Core.Path.{◌≡◌}
use Rattle.voxels.specs.Sum.{sum_z}
use Rattle.voxels.specs.Voxel.{tap_of}
use Rattle.one_voxel.proofs.sum.sum_at.Given as goal

abbrev pub invariant-loop-k : goal.invariant-loop-k
invariant-loop-k l = l.t ≡ sum_z l.r.source.numbers.now l.r.source.plane l.r.source.row (l.r.source.order + 1) (tap_of l.r.x.now) (tap_of l.r.y.now) (tap_of l.r.z.now) l.k
