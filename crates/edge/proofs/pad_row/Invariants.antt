-- `edge::pad_row` meets its contract: the first k places are those of the padded row.
use Prim.Native.Nat.{ℕ}
use lib.ListN.{length}
use lib.Ieee.{nan}
use Rattle.lists.specs.Bookkeeping.{Filled}
use Rattle.lane.specs.Lane.{at}
use Rattle.edge.specs.Edge.{clamped}
use Rattle.edge.proofs.pad_row.Given as goal

abbrev pub invariant-loop-k : goal.invariant-loop-k
invariant-loop-k l = Filled (λ (m : ℕ). at l.from (clamped (length l.from) m)) nan l.to l.k
