-- `voxels::sum::sum_four` meets its contract. The loop's invariant: each lane has the sums of the first k neighbours on the last axis, from 0.0 on.
use Prim.Native.Nat.{ℕ, ◌+◌}
use mathlib.Core.Path.{◌≡◌}
use Rattle.voxels.specs.Sum.{sum_z}
use Rattle.voxels.specs.Voxel.{tap_of}
use Rattle.voxels.specs.Bookkeeping.{column, lane, at_lane}
use Rattle.voxels.proofs.sum.sum_four.Given as goal

abbrev pub invariant-loop-k : goal.invariant-loop-k
invariant-loop-k l = (j : ℕ) → at_lane l.t j ≡ sum_z l.row.source.numbers.now l.row.source.plane l.row.source.row (l.row.source.order + 1) (tap_of l.row.x.now) (tap_of l.row.y.now) (column l.row.table.now (l.o + lane j)) l.k
