-- `lane::near_sum` meets its contract.
use native.Mathlib.Omega.{arith}
use mathlib.Core.Path.{refl}
use Rattle.lane.specs.Lane.{running, near_sum}
use Rattle.lane.proofs.Starts.{running_turn, near_turn}
use Rattle.lane.proofs.near_sum.Goals as goal

pub loop-i-init : goal.loop-i-init
unfolding running near_sum
loop-i-init c = (omega arith, (refl, refl))

pub loop-i-preserved : goal.loop-i-preserved
loop-i-preserved c =
    let at = c.loop-i in
    let f = at.invariant.1.0 in
    (omega arith, (running_turn _ _ _ (omega arith) f, near_turn _ _ _ _ _ (omega arith) f at.invariant.1.1))
