-- `axis::point::empty` meets its contract.
use Rattle.std.proofs.Common.{refl}
use lib.Ieee.{of_bits, of_int}
use Rattle.axis.proofs.point.empty.Goals as goal

pub returns : goal.returns
unfolding of_bits of_int
returns c = refl
