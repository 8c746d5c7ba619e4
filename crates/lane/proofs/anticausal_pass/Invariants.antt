-- `lane::anticausal_pass` meets its contract.
use Prim.Native.Nat.{◌-◌}
use mathlib.Core.Path.{◌≡◌}
use mathlib.Core.List.{map}
use Rattle.lane.specs.Bookkeeping.{lanes_in}
use Rattle.lane.proofs.Passes.{backward}
use Rattle.lane.proofs.anticausal_pass.Given as goal

abbrev pub invariant-loop-i : goal.invariant-loop-i
invariant-loop-i g l = lanes_in l.n l.lines ≡ map (backward l.z l.n (l.n - 1 - l.i)) (lanes_in l.n l.initial.lines)
