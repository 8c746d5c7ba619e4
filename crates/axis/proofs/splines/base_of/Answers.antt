-- `axis::splines::base_of` meets its contract.
use Rattle.std.proofs.Common.{◌∙◌, eq-eqb, ne_eqb}
use lib.Ieee.{of_bits}
use Rattle.axis.specs.Weights.{base}
use Rattle.axis.proofs.splines.base_of.Goals as goal

pub returns-then-order-eq1 : goal.returns-then-order-eq1
unfolding base
returns-then-order-eq1 c = c.floor.ensures ∙ simp (eq-eqb _ _ c.if-order-eq1.true)

pub returns-else-order-eq1 : goal.returns-else-order-eq1
unfolding base of_bits
returns-else-order-eq1 c = c.floor-else-order-eq1.ensures ∙ simp (ne_eqb _ _ c.if-order-eq1.false)
