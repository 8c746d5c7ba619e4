-- `request::conditions::moves_slice` meets its contract: the literal is the number of the definition.
use mathlib.Core.Path.{sym, ◌∙◌}
use lib.Ieee.{of_bits, of_int, ne}
use Rattle.request.proofs.conditions.moves_slice.Goals as goal

pub returns-then-is_single : goal.returns-then-is_single
unfolding of_bits of_int ne
returns-then-is_single c = simp (sym c.is_single.ensures ∙ c.if-is_single.true)
