-- `axis::coordinate::zoom_axis` meets its contract.
use Rattle.std.proofs.Common.{refl}
use lib.Ieee.{of_bits, of_int}
use Rattle.axis.proofs.coordinate.zoom_axis.Goals as goal

pub returns : goal.returns
unfolding of_bits of_int
returns c = rw (c.zoom_ratio.ensures, c.float_of.ensures) refl
