-- `edge::copy` meets its contract: the first k places are copied.
use Prim.Native.Nat.{ℕ}
use lib.Ieee.{nan}
use Rattle.lists.specs.Bookkeeping.{Filled}
use Rattle.lane.specs.Lane.{at}
use Rattle.edge.proofs.copy.Given as goal

abbrev pub invariant-loop-k : goal.invariant-loop-k
invariant-loop-k l = Filled (λ (m : ℕ). at l.from m) nan l.to l.k
