-- `coverage::cover::cover_plane` meets its contract: the rows so far are written.
use native.Mathlib.Omega.{arith}
use lib.ListN.{length}
use Rattle.lists.proofs.Stretches.{next_written, all_written}
use Rattle.coverage.proofs.Covering.{row_filled}
use Rattle.coverage.proofs.cover.cover_plane.Goals as goal

pub loop-j-preserved : goal.loop-j-preserved
loop-j-preserved c =
    let a = c.args in
    let l = c.loop-j in
    let call = c.cover_row in
    next_written _ 0 _ (length a.ys.now) l.plane call.new.row l.j (omega arith) l.invariant call.auto.row (row_filled a.first _ a.ys.now a.zs.now l.j call.new.row c.join.ensures call.ensures)

pub returns : goal.returns
returns c = all_written _ 0 _ (length c.args.ys.now) c.loop-j.plane c.loop-j.j (omega arith) c.loop-j.invariant
