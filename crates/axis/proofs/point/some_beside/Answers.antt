-- `axis::point::some_beside` meets its contract.
use Rattle.std.proofs.Common.{◌∙◌, refl, arith, rules, tests}
use Rattle.std.proofs.lemmas.Iterator.{YieldsList-from_range}
use Rattle.std.proofs.lemmas.Iterator.Search.{any_from_yields_List}
use Rattle.lists.proofs.Somes.{any_below}
use Rattle.axis.specs.Point.{beside_at, some_beside}
use Rattle.axis.proofs.point.some_beside.Goals as goal

pub returns : goal.returns
unfolding some_beside
returns c =
    let a = c.args in
    any_from_yields_List (beside_at a.mode a.a) _ _ _ c.any.ensures.ran (YieldsList-from_range 0 a.a.out a.a.out refl (omega arith)) (λ x b q k. search (rules, tests)) ∙ any_below (beside_at a.mode a.a) a.a.out
