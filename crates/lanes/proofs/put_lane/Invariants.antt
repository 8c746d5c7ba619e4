-- `lanes::put_lane` meets its contract: the first i numbers of the line are written back.
use Rattle.lanes.specs.Bookkeeping.{Written}
use Rattle.lanes.proofs.put_lane.Given as goal

abbrev pub invariant-loop-i : goal.invariant-loop-i
invariant-loop-i l = Written l.i l.stride l.start l.line l.initial.data l.data
