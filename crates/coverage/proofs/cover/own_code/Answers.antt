-- `coverage::cover::own_code` meets its contract: what the three axes say, joined.
use mathlib.Core.Path.{ap, ◌∙◌}
use Rattle.coverage.specs.Coverage.{number_of_code}
use Rattle.coverage.specs.Bookkeeping.{joined}
use Rattle.coverage.proofs.Covering.{own_joined}
use Rattle.coverage.proofs.cover.own_code.Goals as goal

pub returns : goal.returns
returns c =
    let a = c.args in
    c.from.ensures
    ∙ ap number_of_code (c.join.ensures ∙ (λ i. joined ((c.join-others.ensures ∙ (λ j. joined (c.axis_code.ensures j) (c.axis_code-2.ensures j))) i) (c.axis_code-3.ensures i)))
    ∙ own_joined a.order a.mode a.xa a.ya a.za a.x a.y a.z
