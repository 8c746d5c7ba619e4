-- `request::conditions::is_wild` meets its contract: the literals are the numbers of the definition.
use lib.Ieee.{of_bits, of_int}
use Rattle.request.proofs.conditions.is_wild.Goals.{then-v, else-v}
use Rattle.request.proofs.conditions.is_wild.Goals as goal

pub returns : goal.returns
unfolding of_bits of_int
returns c = elim c.if-v.branch [ then-v w ↦ simp (w.result-is, w.if-v.true) | else-v w ↦ simp (w.result-is, w.if-v.false) ]
