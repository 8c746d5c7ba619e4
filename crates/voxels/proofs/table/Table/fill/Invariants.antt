-- `voxels::table::Table::fill` meets its contract: the columns and the flags so far are those of the indices passed.
use mathlib.Core.Path.{◌≡◌}
use Rattle.voxels.specs.Bookkeeping.{Tabled}
use Rattle.voxels.proofs.table.Table.fill.Given as goal

abbrev pub invariant-loop-i : goal.invariant-loop-i
invariant-loop-i l = (l.self.width ≡ l.a.out) × Tabled l.order l.mode l.a l.self l.i
