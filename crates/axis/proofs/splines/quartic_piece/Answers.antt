-- `axis::splines::quartic_piece` meets its contract: the definition, written out.
use Rattle.std.proofs.Common.{refl}
use lib.Ieee.{of_bits, of_int, round}
use Rattle.axis.proofs.splines.quartic_piece.Goals as goal

pub returns : goal.returns
unfolding of_bits of_int round
returns c = refl
