-- `limits::edge_of` meets its contract.
use mathlib.Core.Path.{◌∙◌, sym}
use Rattle.limits.proofs.Singles.{edge_single, edge_long}
use Rattle.limits.proofs.edge_of.Goals as goal

pub returns-then-is_single : goal.returns-then-is_single
returns-then-is_single c = sym (edge_single _ (sym c.is_single.ensures ∙ c.if-is_single.true))

pub returns-else-is_single : goal.returns-else-is_single
returns-else-is_single c = sym (edge_long _ (sym c.is_single.ensures ∙ c.if-is_single.false))
