-- `coverage::cover::cover_row` meets its contract: the codes so far are those of the places passed.
use native.Mathlib.Omega.{arith}
use Rattle.lists.proofs.Tabulated.{is_tabulate}
use Rattle.coverage.proofs.cover.cover_row.Goals as goal

pub returns : goal.returns
returns c = is_tabulate _ 0 c.loop-k.row _ (omega arith) (λ m h. c.loop-k.invariant m (omega arith))
