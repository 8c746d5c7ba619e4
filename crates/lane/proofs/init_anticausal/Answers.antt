-- `lane::init_anticausal` meets its contract.
use lib.Ieee.{of_bits, of_int}
use Rattle.lane.specs.Lane.{init_anticausal}
use Rattle.lane.proofs.init_anticausal.Goals as goal

pub returns-then-reflect : goal.returns-then-reflect
unfolding init_anticausal of_bits of_int
returns-then-reflect c = rw c.if-reflect.true

pub returns-else-reflect : goal.returns-else-reflect
unfolding init_anticausal of_bits of_int
returns-else-reflect c = rw c.if-reflect.false
