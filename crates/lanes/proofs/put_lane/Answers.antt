-- `lanes::put_lane` meets its contract: the first i numbers of the line are written back.
use mathlib.Core.Path.{◌≡◌}
use native.Mathlib.Omega.{arith}
use Rattle.lanes.proofs.Grids.{reaches}
use Rattle.lanes.proofs.Writing.{number, of_front}
use Rattle.lanes.proofs.put_lane.Goals as goal

pub loop-i-preserved : goal.loop-i-preserved
loop-i-preserved c = number c.requires.le_stride (omega (arith, reaches c.loop-i.i c.args.n c.args.stride (omega arith))) c.loop-i.invariant

pub returns : goal.returns
returns c =
    let all : c.loop-i.i ≡ c.args.n = omega arith in
    of_front (rw all at c.loop-i.invariant)
