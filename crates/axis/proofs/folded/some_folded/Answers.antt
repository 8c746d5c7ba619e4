-- `axis::folded::some_folded` meets its contract.
use Rattle.std.proofs.Common.{ℕ, ◌+◌, Bool, ◌&&◌, get_or, ◌∙◌, refl, arith, rules, tests}
use lib.Ieee.{nan}
use Rattle.std.proofs.lemmas.Iterator.{YieldsList-from_range}
use Rattle.std.proofs.lemmas.Iterator.Search.{any_from_yields_List}
use Rattle.exact.specs.Rounded.{◌⊕◌, num}
use Rattle.lists.proofs.Somes.{any_below}
use Rattle.axis.specs.Folded.{weighs, beyond}
use Rattle.axis.proofs.Folding.{some_by_hand}
use Rattle.axis.proofs.folded.some_folded.Goals as goal

pub returns : goal.returns
returns c =
    let a = c.args in
    let test : ℕ → Bool = λ k. weighs (get_or c.build_splines-weight.result k nan) && beyond a.a (c.first_neighbour-first.result ⊕ num k) in
    any_from_yields_List test _ _ c.any.result c.any.ensures.ran (YieldsList-from_range 0 (a.order + 1) (a.order + 1) refl (omega arith)) (λ x b q k. search (rules, tests))
    ∙ any_below test (a.order + 1) ∙ some_by_hand a.order a.mode a.a a.i c.settled_at-to.ensures c.build_splines-weight.ensures c.first_neighbour-first.ensures
