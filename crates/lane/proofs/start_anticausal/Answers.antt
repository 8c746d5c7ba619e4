-- `lane::start_anticausal` meets its contract.
use Prim.Native.Nat.{◌-◌}
use mathlib.Core.Path.{◌≡◌, ◌∙◌}
use lib.ListN.{length, take, length-set}
use lib.Seq.{length-take-le, take-set-lt}
use native.Mathlib.Omega.{arith}
use Rattle.lane.proofs.start_anticausal.Goals as goal

pub returns-clause-after : goal.returns-clause-after
returns-clause-after c =
    let a = c.args in
    let long : length (take a.n a.line.now) ≡ a.n = length-take-le a.n a.line.now c.requires.1 in
    take-set-lt a.n a.line.now (a.n - 1) _ (omega arith) ∙ rw (c.init_anticausal.ensures, long)

pub returns-clause-room : goal.returns-clause-room
returns-clause-room c = simp length-set c.requires.1
