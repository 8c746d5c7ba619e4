-- `lane::causal_pass` meets its contract.
use mathlib.Core.Path.{◌∙◌}
use native.Mathlib.Omega.{arith}
use Rattle.lane.proofs.Passes.{forward_none, forward_more, forward_all}
use Rattle.lane.proofs.causal_pass.Goals as goal

pub loop-i-init : goal.loop-i-init
loop-i-init g c = forward_none _ _ _

pub loop-i-preserved : goal.loop-i-preserved
loop-i-preserved g c = rw c.causal_step.ensures (forward_more _ _ _ _ _ (omega arith) (omega arith) c.loop-i.invariant)

pub returns : goal.returns
returns g c = c.loop-i.invariant ∙ forward_all _ _ _ _ (omega arith)
