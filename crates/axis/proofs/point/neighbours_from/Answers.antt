-- `axis::point::neighbours_from` meets its contract: the places filled so far hold the neighbours, and the rest 0.
use Rattle.std.proofs.Common.{Bool, subst, arith}
use Rattle.axis.proofs.Points.{place_of, Placed, placed_all}
use Rattle.axis.proofs.point.neighbours_from.Goals as goal

pub returns : goal.returns
returns c =
    let a = c.args in
    placed_all a.mode a.order a.len a.first c.loop-k.at c.loop-k.k (omega arith)
    (subst (λ (t : Bool). Placed (place_of a.mode t a.order a.len a.first) c.loop-k.at c.loop-k.k) c.requires.out_value c.loop-k.invariant)
