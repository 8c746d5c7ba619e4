-- `text::past` meets its contract: what is left behind the signs of the kind stays the same as they are passed.
use mathlib.Core.Path.{◌≡◌}
use lib.ListN.{drop}
use Rattle.text.specs.Text.{past}
use Rattle.text.proofs.past.Given as goal

abbrev pub invariant-loop-i : goal.invariant-loop-i
invariant-loop-i l = past l.kind (drop l.at l.text) ≡ past l.kind (drop l.i l.text)
