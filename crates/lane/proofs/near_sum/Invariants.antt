-- `lane::near_sum` meets its contract.
use Prim.Native.Nat.{◌≤◌, ◌-◌}
use mathlib.Core.Path.{◌≡◌}
use Rattle.lane.specs.Lane.{running, near_sum}
use Rattle.lane.proofs.near_sum.Given as goal

abbrev pub invariant-loop-i : goal.invariant-loop-i
invariant-loop-i l = (l.i - 1 ≤ l.pole.cutoff - 1) × ((l.z_i ≡ running l.pole.z (l.i - 1)) × (l.sum ≡ near_sum l.pole.z l.lane (l.i - 1)))
