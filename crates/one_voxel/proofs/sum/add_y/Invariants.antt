-- `one_voxel::sum::add_y` meets its contract: the sums of the first k rows.
use Prim.Native.Nat.{◌+◌}
use mathlib.Core.Path.{◌≡◌}
use Rattle.voxels.specs.Sum.{sum_y}
use Rattle.voxels.specs.Voxel.{tap_of}
use Rattle.one_voxel.proofs.sum.add_y.Given as goal

abbrev pub invariant-loop-k : goal.invariant-loop-k
invariant-loop-k l = l.t ≡ sum_y l.r.source.numbers.now l.r.source.plane l.r.source.row (l.r.source.order + 1) (tap_of l.r.x.now) (tap_of l.r.y.now) l.z l.w l.sum l.k
