-- `request::conditions::bad_zoom` meets its contract: the literals are the numbers of the definition.
use lib.Ieee.{of_bits, of_int}
use Rattle.request.proofs.conditions.bad_zoom.Goals.{then-f, else-f}
use Rattle.request.proofs.conditions.bad_zoom.Goals as goal

pub returns : goal.returns
unfolding of_bits of_int
returns c = elim c.if-f.branch [ then-f w ↦ simp (w.result-is, w.if-f.true) | else-f w ↦ simp (w.result-is, w.if-f.false) ]
