-- `voxels::sweep::sum_row` meets its contract: the values so far are those of the places passed, those that there are.
use Prim.Native.Nat.{ℕ}
use mathlib.Core.Bool.{false, cond}
use lib.ListN.{get_or}
use lib.Ieee.{nan}
use Rattle.voxels.specs.Voxel.{tap_of}
use Rattle.voxels.specs.Bookkeeping.{column, sum_of}
use Rattle.voxels.proofs.Sweeping.{Upto}
use Rattle.voxels.proofs.sweep.sum_row.Given as goal

abbrev pub invariant-loop-o : goal.invariant-loop-o
invariant-loop-o l = Upto (λ (m : ℕ). cond (get_or l.row.table.now.kept m false) (sum_of l.row.source (tap_of l.row.x.now) (tap_of l.row.y.now) (column l.row.table.now m)) l.dropped) nan l.out l.o
