-- `lane::init_causal_reflect` meets its contract.
use lib.Ieee.{of_bits, of_int}
use Rattle.lane.specs.Lane.{init_causal_reflect}
use Rattle.lane.proofs.init_causal_reflect.Goals as goal

pub returns : goal.returns
unfolding init_causal_reflect of_bits of_int
returns c = rw (← c.powi-z_n.ensures, ← c.reflect_sum.ensures)
