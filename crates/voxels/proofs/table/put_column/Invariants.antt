-- `voxels::table::put_column` meets its contract: the first k places of the column are set.
use Rattle.voxels.specs.Bookkeeping.{Column}
use Rattle.voxels.proofs.table.put_column.Given as goal

abbrev pub invariant-loop-k : goal.invariant-loop-k
invariant-loop-k g l = (d : g.row.T.Denot) → Column d l.i l.column l.initial.table l.table l.k
