-- `lane::start_causals` meets its contract.
use native.Mathlib.Omega.{arith}
use Rattle.lane.proofs.Lines.{lane_more}
use Rattle.lane.proofs.start_causals.Goals as goal

pub loop-line-preserved : goal.loop-line-preserved
loop-line-preserved g c = lane_more _ _ _ _ _ _ (omega arith) c.start_causal.ensures c.loop-line.invariant
