-- `lane::anticausal_pass` meets its contract.
use Prim.Native.Nat.{◌-◌}
use mathlib.Core.Path.{◌≡◌, ◌∙◌}
use native.Mathlib.Omega.{arith}
use Rattle.lane.proofs.Passes.{backward_none, backward_more, backward_all}
use Rattle.lane.proofs.anticausal_pass.Goals as goal

pub loop-i-init : goal.loop-i-init
loop-i-init g c =
    let e : c.args.n - 1 - (c.args.n - 1) ≡ 0 = omega arith in
    rw e (backward_none _ _ _)

pub loop-i-preserved : goal.loop-i-preserved
loop-i-preserved g c = rw c.anticausal_step.ensures (backward_more _ _ _ _ _ (omega arith) (omega arith) c.loop-i.invariant)

pub returns : goal.returns
returns g c =
    let e : c.args.n - 1 - c.loop-i.i ≡ c.args.n - 1 = omega arith in
    (rw e at c.loop-i.invariant) ∙ backward_all _ _ _ c.requires.room
