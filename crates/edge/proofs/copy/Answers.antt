-- `edge::copy` meets its contract: the first k places are copied.
use native.Mathlib.Omega.{arith}
use lib.Seq.{ext_get_or}
use lib.Ieee.{nan}
use Rattle.edge.proofs.copy.Goals as goal

pub returns : goal.returns
returns c = ext_get_or nan _ _ (omega arith) (λ m h. c.loop-k.invariant m (omega arith))
