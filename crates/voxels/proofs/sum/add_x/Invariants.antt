-- `voxels::sum::add_x` meets its contract. The loop's invariant: each lane has the sum of the first k planes.
use Prim.Native.Nat.{ℕ}
use mathlib.Core.Path.{◌≡◌}
use Rattle.voxels.specs.Sum.{sum_x}
use Rattle.voxels.specs.Voxel.{tap_of}
use Rattle.voxels.specs.Bookkeeping.{at_lane}
use Rattle.voxels.proofs.sum.add_x.Given as goal

abbrev pub invariant-loop-k : goal.invariant-loop-k
invariant-loop-k l = (j : ℕ) → at_lane l.t j ≡ sum_x l.row.source.numbers.now l.row.source.plane (tap_of l.row.x.now) (at_lane l.at j) (at_lane l.v j) (at_lane l.initial.t j) l.k
