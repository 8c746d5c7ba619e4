-- `request::conditions::some_wild` meets its contract.
use mathlib.Core.Path.{◌∙◌}
use Rattle.std.proofs.Common.{rules}
use Rattle.std.proofs.lemmas.Iterator.{YieldsList-from_slice}
use Rattle.std.proofs.lemmas.Iterator.Search.{any_from_yields_List}
use Rattle.request.specs.Conditions.{wild, some_wild}
use Rattle.request.proofs.Deciding.{any_of_list}
use Rattle.request.proofs.conditions.some_wild.Goals as goal

pub returns : goal.returns
unfolding some_wild
returns c =
    any_from_yields_List wild _ _ _ c.any.ensures.ran (YieldsList-from_slice c.args.input.now cc) (λ x b q k. search rules)
    ∙ any_of_list wild c.args.input.now
