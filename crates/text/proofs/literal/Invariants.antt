-- `text::literal` meets its contract: what is left behind the rest of the word stays the same as its signs are read.
use mathlib.Core.Path.{◌≡◌}
use lib.ListN.{drop}
use Rattle.text.specs.Text.{literal}
use Rattle.text.proofs.literal.Given as goal

abbrev pub invariant-loop-sign : goal.invariant-loop-sign
invariant-loop-sign l = literal l.word (drop l.at l.text) ≡ literal (drop l.sign-index l.word) (drop l.to l.text)
