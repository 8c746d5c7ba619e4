-- `lane::init_causal` meets its contract.
use Rattle.lane.specs.Lane.{init_causal}
use Rattle.lane.proofs.init_causal.Goals as goal

pub returns-then-reflect : goal.returns-then-reflect
unfolding init_causal
returns-then-reflect c = rw c.if-reflect.true c.init_causal_reflect.ensures

pub returns-else-reflect : goal.returns-else-reflect
unfolding init_causal
returns-else-reflect c = rw c.if-reflect.false c.init_causal_mirror.ensures
