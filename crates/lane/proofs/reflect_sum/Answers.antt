-- `lane::reflect_sum` meets its contract.
use native.Mathlib.Omega.{arith}
use mathlib.Core.Path.{refl}
use Rattle.lane.specs.Lane.{running, reflect_sum}
use Rattle.lane.proofs.Starts.{running_turn, reflect_turn, reflect_last}
use Rattle.lane.proofs.reflect_sum.Goals as goal

pub loop-i-init : goal.loop-i-init
unfolding running reflect_sum
loop-i-init c = (refl, rw c.requires.z_n_value)

pub loop-i-preserved : goal.loop-i-preserved
loop-i-preserved c =
    let at = c.loop-i in
    let f = at.invariant.0 in
    (running_turn _ _ _ (omega arith) f, reflect_turn _ _ _ _ _ (omega arith) f _ c.requires.z_n_value at.invariant.1 (omega arith))

pub returns : goal.returns
returns c =
    let at = c.loop-i in
    reflect_last _ _ _ _ _ (omega arith) at.invariant.0 _ c.requires.z_n_value at.invariant.1 (omega arith)
