-- `axis::point::is_outside` meets its contract.
use lib.Ieee.{of_bits, of_int}
use Rattle.axis.proofs.Points.{outside-beyond}
use Rattle.exact.proofs.Literals.{zero_bits}
use Rattle.axis.proofs.point.is_outside.Goals as goal

pub returns-then-first : goal.returns-then-first
returns-then-first c = simp (zero_bits, c.if-first.true)

pub returns-else-first : goal.returns-else-first
unfolding of_bits of_int
returns-else-first c = let a = c.args in outside-beyond a.order a.len a.first c.if-first.false c.float_of.ensures c.float_of-else-first.ensures
