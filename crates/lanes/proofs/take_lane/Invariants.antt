-- `lanes::take_lane` meets its contract: the first i places of the line are the lane's.
use Prim.Native.Nat.{ℕ, ◌+◌, ◌*◌}
use lib.Ieee.{nan}
use Rattle.lists.specs.Bookkeeping.{Filled}
use Rattle.lane.specs.Lane.{at}
use Rattle.lanes.proofs.take_lane.Given as goal

abbrev pub invariant-loop-i : goal.invariant-loop-i
invariant-loop-i l = Filled (λ (m : ℕ). at l.data (l.start + m * l.stride)) nan l.line l.i
