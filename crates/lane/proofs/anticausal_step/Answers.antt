-- `lane::anticausal_step` meets its contract.
use native.Mathlib.Omega.{arith}
use Rattle.lane.proofs.Lines.{line_more}
use Rattle.lane.proofs.anticausal_step.Goals as goal

pub loop-line-preserved : goal.loop-line-preserved
loop-line-preserved g c = line_more _ _ _ _ _ (omega arith) c.step_backward.ensures c.loop-line.invariant
