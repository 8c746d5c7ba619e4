-- `lanes::take_lane` meets its contract: the first i places of the line are the lane's.
use mathlib.Core.Path.{◌≡◌}
use native.Mathlib.Omega.{arith}
use Rattle.lists.proofs.Tabulated.{take-tabulate}
use Rattle.lanes.specs.Along.{lane_of}
use Rattle.lanes.proofs.take_lane.Goals as goal

pub returns : goal.returns
unfolding lane_of
returns c =
    let all : c.loop-i.i ≡ c.args.n = omega arith in
    take-tabulate _ _ _ _ (omega arith) (rw all at c.loop-i.invariant)
