-- `lane::causal_pass` meets its contract.
use Prim.Native.Nat.{◌-◌}
use mathlib.Core.Path.{◌≡◌}
use mathlib.Core.List.{map}
use Rattle.lane.specs.Bookkeeping.{lanes_in}
use Rattle.lane.proofs.Passes.{forward}
use Rattle.lane.proofs.causal_pass.Given as goal

abbrev pub invariant-loop-i : goal.invariant-loop-i
invariant-loop-i g l = lanes_in l.n l.lines ≡ map (forward l.z (l.i - 1)) (lanes_in l.n l.initial.lines)
