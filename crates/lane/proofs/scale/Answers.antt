-- `lane::scale` meets its contract.
use mathlib.Core.Path.{◌∙◌}
use lib.Seq.{take_at}
use lib.Ieee.{nan}
use lib.Seq.{length-take-le}
use Rattle.lane.proofs.Lines.{through_more, through_all}
use Rattle.lane.proofs.scale.Goals as goal

pub loop-x-preserved : goal.loop-x-preserved
loop-x-preserved c = through_more _ nan c.loop-x-test.true c.loop-x.invariant

pub returns : goal.returns
returns c =
    let a = c.args in
    take_at c.loop-x.x-items _ a.n (c.loop-x.auto.x-items ∙ length-take-le a.n a.line.now c.requires) ∙ through_all _ c.loop-x-test.false c.loop-x.invariant
