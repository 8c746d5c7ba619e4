-- `voxels::sum::add_y` meets its contract. The loop's invariant: each lane has the sums of the first k rows.
use Prim.Native.Nat.{ℕ, ◌+◌}
use mathlib.Core.Path.{◌≡◌}
use Rattle.voxels.specs.Sum.{sum_y}
use Rattle.voxels.specs.Voxel.{tap_of}
use Rattle.voxels.specs.Bookkeeping.{at_lane}
use Rattle.voxels.proofs.sum.add_y.Given as goal

abbrev pub invariant-loop-k : goal.invariant-loop-k
invariant-loop-k l = (j : ℕ) → at_lane l.t j ≡ sum_y l.row.source.numbers.now l.row.source.plane l.row.source.row (l.row.source.order + 1) (tap_of l.row.x.now) (tap_of l.row.y.now) (at_lane l.z j) (at_lane l.w j) (at_lane l.initial.t j) l.k
