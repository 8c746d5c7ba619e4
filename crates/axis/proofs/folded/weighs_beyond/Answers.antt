-- `axis::folded::weighs_beyond` meets its contract.
use Rattle.std.proofs.Common.{◌∙◌}
use lib.Ieee.{ne, of_bits, of_int}
use Rattle.axis.proofs.Folding.{weightless, before_axis, behind_axis}
use Rattle.axis.proofs.folded.weighs_beyond.Goals as goal

pub returns-else-w : goal.returns-else-w
unfolding ne of_bits of_int
returns-else-w c = let s = c.args in c.if-w.false ∙ weightless s.a s.x s.w c.if-w.false

pub returns-then-x-a : goal.returns-then-x-a
unfolding ne of_bits of_int
returns-then-x-a c = let s = c.args in c.if-x-a.true ∙ before_axis s.a s.x s.w c.if-w.true c.if-x-a.true

pub returns-else-x-a : goal.returns-else-x-a
unfolding ne of_bits of_int
returns-else-x-a c = let s = c.args in behind_axis s.a s.x s.w c.if-w.true c.if-x-a.false c.float_of.ensures
