-- `replay_parts::axes::length_case` is safe: the tests are what `output_length` asks.
use Rattle.std.proofs.Common.{T, sym, subst}
use lib.Ieee.{of_bits, of_int}
use Rattle.replay_parts.proofs.axes.length_case.Goals as goal

pub output_length-requires : goal.output_length-requires
unfolding of_bits of_int
output_length-requires c = record { short = c.if-length-le-LONGEST.true; above = subst T (sym c.if-factor.true) tt; most = subst T (sym c.if-factor-2.true) tt }
