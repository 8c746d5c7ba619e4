-- `limits::wide_of` meets its contract.
use Prim.Native.Nat.{◌≤◌}
use native.Mathlib.Omega.{arith}
use Rattle.limits.proofs.Singles.{edge_most}
use Rattle.limits.proofs.wide_of.Goals.{After-edge_of}
use Rattle.limits.proofs.wide_of.Goals as goal

few : (c : After-edge_of) → c.edge_of.result ≤ 12
few c = rw c.edge_of.ensures (edge_most _)

pub overflow_mul-result : goal.overflow_mul-result
overflow_mul-result c = omega (arith, few c)

pub overflow_add-result : goal.overflow_add-result
overflow_add-result c = omega (arith, few c, c.requires)
