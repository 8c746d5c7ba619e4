-- `axis::splines::quadratic` meets its contract: the definition, written out.
use Rattle.std.proofs.Common.{refl}
use lib.Ieee.{of_bits, of_int, round}
use Rattle.axis.specs.Weights.{leading2, completed, sum_from}
use Rattle.axis.proofs.splines.quadratic.Goals as goal

pub returns : goal.returns
unfolding leading2 completed sum_from of_bits of_int round
returns c = refl
