-- `lane::scales` meets its contract.
use native.Mathlib.Omega.{arith}
use Rattle.lane.proofs.Lines.{lane_more}
use Rattle.lane.proofs.scales.Goals as goal

pub loop-line-preserved : goal.loop-line-preserved
loop-line-preserved g c = lane_more _ _ _ _ _ _ (omega arith) c.scale.ensures c.loop-line.invariant
