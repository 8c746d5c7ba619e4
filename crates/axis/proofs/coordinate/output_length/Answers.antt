-- `axis::coordinate::output_length` meets its contract: the rounded product is a natural number.
use Rattle.std.proofs.Common.{◌≡◌, ap, ◌∙◌}
use lib.Ieee.{Float, to_unsigned}
use Rattle.exact.specs.Rounded.{◌⊗◌, num}
use Rattle.exact.specs.Round.{round_ties_even_f}
use Rattle.axis.specs.Length.{output_length}
use Rattle.axis.proofs.Lengths.{length_asks}
use Rattle.axis.proofs.coordinate.output_length.Goals.{After-round_ties_even}
use Rattle.axis.proofs.coordinate.output_length.Goals as goal

-- what is rounded is the product
product : (c : After-round_ties_even) → c.round_ties_even.result ≡ round_ties_even_f (num c.args.length ⊗ c.args.factor)
product c = c.round_ties_even.ensures ∙ ap (λ (x : Float). round_ties_even_f (x ⊗ c.args.factor)) c.float_of.ensures

pub truncating_f64_to_u64-requires : goal.truncating_f64_to_u64-requires
truncating_f64_to_u64-requires c = let a = c.args in record { lower_bound = (length_asks a.length a.factor c.round_ties_even.result c.requires (product c)).0; upper_bound = (length_asks a.length a.factor c.round_ties_even.result c.requires (product c)).1 }

pub returns : goal.returns
unfolding output_length
returns c = c.truncating_f64_to_u64.ensures ∙ ap (to_unsigned 64) (product (goal.at.returns c).After-round_ties_even)
