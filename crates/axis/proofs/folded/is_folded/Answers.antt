-- `axis::folded::is_folded` meets its contract.
use Rattle.std.proofs.Common.{ℕ, ap, ◌∙◌}
use Rattle.axis.specs.Folded.{some_folded, folded_at}
use Rattle.axis.proofs.Points.{order_most}
use Rattle.axis.proofs.folded.is_folded.Goals as goal

pub some_folded-requires : goal.some_folded-requires
some_folded-requires c = let a = c.args in rw c.order_on.ensures (order_most a.a.len a.order c.requires)

pub returns : goal.returns
unfolding folded_at
returns c = let a = c.args in c.some_folded.ensures ∙ ap (λ (o : ℕ). some_folded o a.mode a.a a.i) c.order_on.ensures
