-- `axis::point::is_beside` meets its contract.
use Rattle.std.proofs.Common.{◌∙◌}
use lib.Ieee.{of_bits, of_int}
use Rattle.axis.proofs.Points.{beside_by, dropped_by}
use Rattle.axis.proofs.point.is_beside.Goals as goal

pub returns-then-to : goal.returns-then-to
unfolding of_bits of_int
returns-then-to c = let a = c.args in c.is_outside.ensures ∙ beside_by a.mode a.a a.i c.settled_at-to.ensures c.if-to.true c.first_neighbour.ensures

pub returns-else-to : goal.returns-else-to
unfolding of_bits of_int
returns-else-to c = let a = c.args in c.if-to.false ∙ dropped_by a.mode a.a a.i c.settled_at-to.ensures c.if-to.false
