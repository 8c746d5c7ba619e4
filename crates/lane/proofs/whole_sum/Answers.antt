-- `lane::whole_sum` meets its contract.
use native.Mathlib.Omega.{arith}
use lib.Ieee.{of_bits, of_int}
use mathlib.Core.Path.{refl}
use Rattle.lane.specs.Lane.{running, returning, whole_sum}
use Rattle.lane.proofs.Starts.{running_turn, returning_turn, whole_turn}
use Rattle.lane.proofs.whole_sum.Goals as goal

pub loop-i-init : goal.loop-i-init
unfolding running returning whole_sum of_bits of_int
loop-i-init c =
    let p = c.requires.z_n_1_value in
    (refl, (rw p, rw p))

pub loop-i-preserved : goal.loop-i-preserved
unfolding of_bits of_int
loop-i-preserved c =
    let at = c.loop-i in
    let f = at.invariant.0 in
    let b = at.invariant.1.0 in
    (running_turn _ _ _ (omega arith) f, (returning_turn _ _ _ _ (omega arith) b, whole_turn _ _ _ _ _ (omega arith) f _ b at.invariant.1.1))
