-- `lane::whole_sum` meets its contract.
use Prim.Native.Nat.{◌-◌}
use mathlib.Core.Path.{◌≡◌}
use Rattle.lane.specs.Lane.{running, returning, whole_sum}
use Rattle.lane.proofs.whole_sum.Given as goal

abbrev pub invariant-loop-i : goal.invariant-loop-i
invariant-loop-i l = (l.z_i ≡ running l.z (l.i - 1)) × ((l.z_2n_2_i ≡ returning l.z l.n (l.i - 1)) × (l.sum ≡ whole_sum l.z l.lane (l.i - 1)))
