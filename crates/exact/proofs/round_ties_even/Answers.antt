-- `exact::round_ties_even` meets its contract: of a number below 0 it rounds the negative, and negates.
use Rattle.std.proofs.Common.{sym, ap, ◌∙◌}
use lib.Ieee.{of_bits, neg}
use Rattle.exact.specs.Round.{round_ties_even_f}
use Rattle.exact.proofs.Rounds.{rounded_neg, neg-neg, neg-not_below}
use Rattle.exact.proofs.round_ties_even.Goals as goal

pub nearest_whole-requires : goal.nearest_whole-requires
unfolding of_bits
nearest_whole-requires c = neg-not_below c.args.x c.if-x.true

pub returns-then-x : goal.returns-then-x
returns-then-x c =
    let x = c.args.x in
    ap neg c.nearest_whole.ensures ∙ sym (rounded_neg (neg x)) ∙ ap round_ties_even_f (neg-neg x)
