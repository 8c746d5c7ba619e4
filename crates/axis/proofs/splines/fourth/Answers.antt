-- `axis::splines::fourth` meets its contract: the definition, written out.
use Rattle.std.proofs.Common.{refl}
use lib.Ieee.{of_bits, of_int, round}
use Rattle.axis.specs.Weights.{leading4, completed, sum_from}
use Rattle.axis.proofs.splines.fourth.Goals as goal

pub returns : goal.returns
unfolding leading4 completed sum_from of_bits of_int round
returns c = rw (c.quartic_piece-b.ensures, c.quartic_piece-d.ensures) refl
