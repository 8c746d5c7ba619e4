-- `voxels::table::Table::fill` meets its contract: the columns and the flags so far are those of the indices passed.
use mathlib.Core.Bool.{false}
use mathlib.Core.Path.{◌∙◌}
use native.Mathlib.Omega.{arith}
use lib.Ieee.{nan}
use Rattle.coverage.specs.Coverage.{kept_at}
use Rattle.lists.proofs.Stretches.{put}
use Rattle.voxels.proofs.Tables.{tabled_more}
use Rattle.voxels.proofs.Sweeping.{marked_kept}
use Rattle.voxels.proofs.table.Table.fill.Goals as goal

pub loop-i-preserved : goal.loop-i-preserved
loop-i-preserved c =
    let a = c.args in
    let l = c.loop-i in
    let point = c.point_at-point in
    let flags = put (kept_at a.mode a.a) false l.self.kept l.i c.is_kept.result (c.is_kept.ensures ∙ marked_kept a.order a.mode a.a l.i point.ensures) (omega arith) l.invariant.1.kept in
    (l.invariant.0, tabled_more a.order a.mode a.a l.i l.self _ point.result point.ensures (c.requires.reaches.each l.i (omega arith)) (omega (arith, c.requires.reaches.short)) flags (c.put_column.ensures 0) (c.put_column-in-loop-i.ensures nan) l.invariant.1)
