-- `edge::pad_row` meets its contract: the first k places are those of the padded row.
use native.Mathlib.Omega.{arith}
use Rattle.edge.proofs.Edges.{is_row}
use Rattle.edge.proofs.pad_row.Goals as goal

pub returns : goal.returns
returns c = is_row _ _ (omega arith) (λ m h. c.loop-k.invariant m (omega arith))
