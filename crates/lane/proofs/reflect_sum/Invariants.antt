-- `lane::reflect_sum` meets its contract.
use Prim.Native.Nat.{◌-◌}
use mathlib.Core.Path.{◌≡◌}
use Rattle.lane.specs.Lane.{running, reflect_sum}
use Rattle.lane.proofs.reflect_sum.Given as goal

abbrev pub invariant-loop-i : goal.invariant-loop-i
invariant-loop-i l = (l.z_i ≡ running l.z (l.i - 1)) × (l.sum ≡ reflect_sum l.z l.lane (l.i - 1))
