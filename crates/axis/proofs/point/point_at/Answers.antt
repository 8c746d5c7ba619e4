-- `axis::point::point_at` meets its contract.
use Rattle.std.proofs.Common.{◌∙◌}
use lib.Ieee.{of_bits, of_int}
use Rattle.axis.proofs.Points.{reached_kept, point-kept, point_dropped}
use Rattle.axis.proofs.point.point_at.Goals as goal

pub kept_point-requires : goal.kept_point-requires
unfolding of_bits of_int
kept_point-requires c = let a = c.args in rw c.order_on.ensures (reached_kept a.order a.mode a.a a.i c.settled_at-to.ensures c.requires c.if-to.true)

pub returns-then-to : goal.returns-then-to
unfolding of_bits of_int
returns-then-to c = let a = c.args in c.kept_point.ensures ∙ point-kept a.order a.mode a.a a.i c.settled_at-to.ensures c.order_on.ensures c.if-to.true

pub returns-else-to : goal.returns-else-to
unfolding of_bits of_int
returns-else-to c = let a = c.args in c.empty.ensures ∙ point_dropped a.order a.mode a.a a.i c.settled_at-to.ensures c.if-to.false
