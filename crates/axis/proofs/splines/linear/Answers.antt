-- `axis::splines::linear` meets its contract: the definition, written out.
use Rattle.std.proofs.Common.{refl}
use lib.Ieee.{of_bits, of_int, round}
use Rattle.axis.specs.Weights.{leading1, completed, sum_from}
use Rattle.axis.proofs.splines.linear.Goals as goal

pub returns : goal.returns
unfolding leading1 completed sum_from of_bits of_int round
returns c = refl
