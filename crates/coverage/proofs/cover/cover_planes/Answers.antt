-- `coverage::cover::cover_planes` meets its contract: the planes so far are written.
use native.Mathlib.Omega.{arith}
use lib.ListN.{length}
use Rattle.lists.proofs.Stretches.{next_written, all_written}
use Rattle.coverage.proofs.Covering.{plane_filled}
use Rattle.coverage.proofs.cover.cover_planes.Goals as goal

pub loop-i-preserved : goal.loop-i-preserved
loop-i-preserved c =
    let a = c.args in
    let l = c.loop-i in
    let call = c.cover_plane in
    next_written _ 0 _ (length a.xs.now) l.coverage call.new.plane l.i (omega arith) l.invariant call.auto.plane (plane_filled a.xs.now a.ys.now a.zs.now l.i call.new.plane call.ensures)

pub returns : goal.returns
returns c = all_written _ 0 _ (length c.args.xs.now) c.loop-i.coverage c.loop-i.i (omega arith) c.loop-i.invariant
