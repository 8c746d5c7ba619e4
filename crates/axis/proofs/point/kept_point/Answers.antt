-- `axis::point::kept_point` meets its contract.
use Rattle.std.proofs.Common.{◌≡◌, false, ◌&&◌, eqb, sym, ◌∙◌}
use Rattle.axis.specs.Neighbours.{outside}
use Rattle.axis.proofs.Points.{not-outside, not_order_zero, kept-outside, kept_inside, kept_asks}
use Rattle.axis.proofs.point.kept_point.Goals.{After-build_splines, else-order-eq0-via-then-order-eq0+else-out, else-order-eq0-via-else-order-eq0}
use Rattle.axis.proofs.point.kept_point.Goals as goal

pub returns-then-out : goal.returns-then-out
returns-then-out c = let a = c.args in c.empty.ensures ∙ kept-outside a.order a.mode a.len a.to c.first_neighbour-first.ensures c.if-order-eq0.true (sym c.is_outside-out.ensures ∙ c.if-out.true)

not_beside : (c : After-build_splines) → (eqb c.args.order 0 && outside c.args.order c.args.len c.first_neighbour-first.result) ≡ false
not_beside c =
    let order = c.args.order in
    elim c.else-order-eq0.branch [
      | else-order-eq0-via-then-order-eq0+else-out w ↦ not-outside order (sym c.is_outside-out.ensures ∙ w.if-out.false)
      | else-order-eq0-via-else-order-eq0 w ↦ not_order_zero order _ w.if-order-eq0.false
    ]

pub neighbours_from-requires-clause-by_index : goal.neighbours_from-requires-clause-by_index
neighbours_from-requires-clause-by_index c = let a = c.args in kept_asks a.order a.mode a.len a.to c.first_neighbour-first.ensures c.requires (not_beside (goal.at.neighbours_from-requires-clause-by_index c).After-build_splines) c.is_outside-out.ensures

pub returns : goal.returns
returns c = let a = c.args in kept_inside a.order a.mode a.len a.to c.first_neighbour-first.ensures (not_beside (goal.at.returns c).After-build_splines) c.build_splines.ensures c.neighbours_from.ensures
