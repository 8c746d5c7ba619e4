-- `one_voxel::sum::add_x` meets its contract: the sum of the first k planes.
use mathlib.Core.Path.{◌≡◌}
use Rattle.voxels.specs.Sum.{sum_x}
use Rattle.voxels.specs.Voxel.{tap_of}
use Rattle.one_voxel.proofs.sum.add_x.Given as goal

abbrev pub invariant-loop-k : goal.invariant-loop-k
invariant-loop-k l = l.t ≡ sum_x l.r.source.numbers.now l.r.source.plane (tap_of l.r.x.now) l.place l.v l.sum l.k
