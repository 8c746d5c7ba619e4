-- `text::numeral::numeral` meets its contract: what the digits write stays the same as they are read, and the number so far is below the limit.
use Prim.Native.Nat.{◌<◌}
use mathlib.Core.Path.{◌≡◌}
use lib.ListN.{drop}
use Rattle.text.specs.Numeral.{limit, value_from}
use Rattle.text.proofs.numeral.numeral.Given as goal

abbrev pub invariant-loop-i : goal.invariant-loop-i
invariant-loop-i l = (value_from 0 (drop l.at l.text) ≡ value_from l.n (drop l.i l.text)) × (l.n < limit)
