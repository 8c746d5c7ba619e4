-- `voxels::sweep::value_plane` meets its contract: the rows so far are written.
use mathlib.Core.Path.{ap}
use native.Mathlib.Omega.{arith}
use lib.Ieee.{nan}
use Rattle.axis.specs.declared.point.Point.{Point}
use Rattle.lists.proofs.Stretches.{next_written, all_written}
use Rattle.voxels.proofs.Sweeping.{point_planes, row_filled}
use Rattle.voxels.proofs.sweep.value_plane.Goals as goal

pub invariant_of-row-clause-in_source : goal.invariant_of-row-clause-in_source
invariant_of-row-clause-in_source c =
    let a = c.args in
    let j = c.loop-j.j in
    record { planes = c.requires.planes; rows = point_planes a.source.now.order a.mode a.ya j _ _ _ _ (c.requires.reaches.each j (omega arith)) (ap (λ (t : Point). t.at) c.point_at-y.ensures) c.requires.plane_value }

pub loop-j-preserved : goal.loop-j-preserved
loop-j-preserved c =
    let a = c.args in
    let l = c.loop-j in
    let call = c.value_row in
    next_written _ nan _ a.ya.out l.out call.new.out l.j (omega arith) l.invariant call.auto.out (row_filled a.mode a.source.now a.table.now a.ya a.x.now c.point_at-y.result l.j call.new.out c.point_at-y.ensures call.ensures)

pub returns : goal.returns
returns c = all_written _ nan _ c.args.ya.out c.loop-j.out c.loop-j.j (omega arith) c.loop-j.invariant
