-- `axis::splines::fifth` meets its contract: the definition, written out.
use Rattle.std.proofs.Common.{refl}
use lib.Ieee.{of_bits, of_int, round}
use Rattle.axis.specs.Weights.{leading5, completed, sum_from}
use Rattle.axis.proofs.splines.fifth.Goals as goal

pub returns : goal.returns
unfolding leading5 completed sum_from of_bits of_int round
returns c = rw (c.quintic_outer-b.ensures, c.quintic_inner-c.ensures, c.quintic_inner-d.ensures, c.quintic_outer-e.ensures) refl
