-- `voxels::sweep::value_planes` meets its contract: the planes so far are written.
use mathlib.Core.Path.{ap}
use native.Mathlib.Omega.{arith}
use lib.Ieee.{nan}
use Rattle.axis.specs.declared.point.Point.{Point}
use Rattle.lists.proofs.Stretches.{next_written, all_written}
use Rattle.voxels.proofs.Sweeping.{point_planes, plane_filled}
use Rattle.voxels.proofs.sweep.value_planes.Goals as goal

pub value_plane-requires-clause-planes : goal.value_plane-requires-clause-planes
value_plane-requires-clause-planes c =
    let a = c.args in
    let i = c.loop-i.i in
    point_planes a.source.now.order a.mode a.xa i _ _ _ _ (c.requires.reaches.0.each i (omega arith)) (ap (λ (t : Point). t.at) c.point_at-x.ensures) c.requires.data_len

pub loop-i-preserved : goal.loop-i-preserved
loop-i-preserved c =
    let a = c.args in
    let l = c.loop-i in
    let call = c.value_plane in
    next_written _ nan _ a.xa.out l.out call.new.out l.i (omega arith) l.invariant call.auto.out (plane_filled a.mode a.source.now a.table.now a.ya a.xa c.point_at-x.result l.i call.new.out c.point_at-x.ensures call.ensures)

pub returns : goal.returns
returns c = all_written _ nan _ c.args.xa.out c.loop-i.out c.loop-i.i (omega arith) c.loop-i.invariant
