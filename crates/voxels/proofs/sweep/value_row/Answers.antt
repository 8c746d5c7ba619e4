-- `voxels::sweep::value_row` meets its contract.
use mathlib.Core.Path.{◌≡◌, sym, ◌∙◌}
use mathlib.Core.Bool.{false, ◌&&◌}
use Rattle.axis.specs.Point.{is_kept}
use Rattle.voxels.proofs.Sweeping.{row_dropped}
use Rattle.voxels.proofs.sweep.value_row.Goals.{else-is_kept-via-then-is_kept+else-is_kept-2, else-is_kept-via-else-is_kept}
use Rattle.voxels.proofs.sweep.value_row.Goals as goal

pub returns-else-is_kept : goal.returns-else-is_kept
returns-else-is_kept c =
    let row = c.args.row.now in
    let out : (is_kept row.x.now.mark && is_kept row.y.now.mark) ≡ false = elim c.else-is_kept.branch [
      | else-is_kept-via-then-is_kept+else-is_kept-2 w ↦ simp (sym c.is_kept.ensures ∙ w.if-is_kept.true, sym w.is_kept-then-is_kept.ensures ∙ w.if-is_kept-2.false)
      | else-is_kept-via-else-is_kept w ↦ simp (sym c.is_kept.ensures ∙ w.if-is_kept.false)
    ] in
    c.fill.ensures.after (λ y e. e) ∙ row_dropped c.args.mode row.source row.table.now row.x.now row.y.now c.requires.0 c.drop_value-dropped.ensures out
