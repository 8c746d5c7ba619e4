-- `lane::init_causal_mirror` meets its contract.
use lib.Ieee.{of_bits, of_int}
use borrow.Author.Tests.{lt-ltb, le-ltb}
use Rattle.lane.specs.Lane.{init_causal_mirror}
use Rattle.lane.proofs.init_causal_mirror.Goals as goal

pub returns-then-pole-lane : goal.returns-then-pole-lane
unfolding init_causal_mirror
returns-then-pole-lane c = rw (lt-ltb _ _ c.if-pole-lane.true) c.near_sum.ensures

pub returns : goal.returns
unfolding init_causal_mirror of_bits of_int
returns c = rw (le-ltb _ _ c.if-pole-lane.false, ← c.powi-z_n_1.ensures, ← c.whole_sum.ensures)
