-- `axis::splines::quintic_inner` meets its contract: the definition, written out.
use Rattle.std.proofs.Common.{refl}
use lib.Ieee.{of_bits, of_int, round}
use Rattle.axis.proofs.splines.quintic_inner.Goals as goal

pub returns : goal.returns
unfolding of_bits of_int round
returns c = refl
