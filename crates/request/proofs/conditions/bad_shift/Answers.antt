-- `request::conditions::bad_shift` meets its contract: the literals are the numbers of the definition.
use lib.Ieee.{of_bits, of_int}
use Rattle.request.proofs.conditions.bad_shift.Goals.{then-s, else-s}
use Rattle.request.proofs.conditions.bad_shift.Goals as goal

pub returns : goal.returns
unfolding of_bits of_int
returns c = elim c.if-s.branch [ then-s w ↦ simp (w.result-is, w.if-s.true) | else-s w ↦ simp (w.result-is, w.if-s.false) ]
