-- `axis::coordinate::zoom_ratio` meets its contract.
use Rattle.std.proofs.Common.{sym, ◌∙◌}
use lib.Ieee.{of_bits, of_int}
use Rattle.axis.proofs.coordinate.zoom_ratio.Goals as goal

pub returns-then-is_single : goal.returns-then-is_single
unfolding of_bits of_int
returns-then-is_single c = simp (sym c.is_single.ensures ∙ c.if-is_single.true)
