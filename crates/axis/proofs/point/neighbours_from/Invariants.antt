-- `axis::point::neighbours_from` meets its contract: the places filled so far hold the neighbours, and the rest 0.
use Rattle.axis.proofs.Points.{place_of, Placed}
use Rattle.axis.proofs.point.neighbours_from.Given as goal

abbrev pub invariant-loop-k : goal.invariant-loop-k
invariant-loop-k l = Placed (place_of l.mode l.out l.order l.len l.first) l.at l.k
