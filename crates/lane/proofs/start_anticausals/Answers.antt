-- `lane::start_anticausals` meets its contract.
use native.Mathlib.Omega.{arith}
use lib.ListN.{take, length-map}
use Rattle.lane.proofs.Lines.{through_none, through_all, lines_length, lane_more, room_more}
use Rattle.lane.proofs.start_anticausals.Goals as goal

pub loop-line-init : goal.loop-line-init
loop-line-init g c = (through_none _ _, λ m d h. absurd (omega arith))

pub loop-line-preserved : goal.loop-line-preserved
loop-line-preserved g c =
    let at = c.loop-line.invariant in
    let done = c.start_anticausal.ensures in
    (lane_more _ _ _ _ _ _ (omega arith) done.after at.0, room_more _ _ _ _ (omega (arith, lines_length _ _ _ at.0)) done.room at.1)

pub returns : goal.returns
returns g c =
    let at = c.loop-line.invariant in
    record { after = through_all _ (omega (arith, length-map c.args.lines.now (take c.args.n))) at.0; room = λ k d h. at.1 k d (omega (arith, lines_length _ _ _ at.0)) }
