-- `voxels::sweep::copy_row` meets its contract: the voxels so far are those of the places passed.
use Prim.Native.Nat.{ℕ, ◌+◌}
use mathlib.Core.Bool.{false, cond}
use lib.ListN.{get_or}
use lib.Ieee.{nan}
use Rattle.lists.specs.Bookkeeping.{Filled}
use Rattle.voxels.proofs.sweep.copy_row.Given as goal

abbrev pub invariant-loop-k : goal.invariant-loop-k
invariant-loop-k l = Filled (λ (m : ℕ). cond (get_or l.table.kept m false) (get_or l.plane (l.start + get_or l.table.at m 0) nan) l.dropped) nan l.out l.k
