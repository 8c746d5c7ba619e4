-- `lanes::filter_lanes` meets its contract: the lanes below j are filtered, and the others are as they were.
use Rattle.lane.specs.Bookkeeping.{filter_by}
use Rattle.lanes.specs.Bookkeeping.{Replaced, lanes_by}
use Rattle.lanes.proofs.filter_lanes.Given as goal

abbrev pub invariant-loop-j : goal.invariant-loop-j
invariant-loop-j g l = Replaced l.grid 0 l.j (lanes_by (filter_by l.filter) l.grid l.initial.data) l.initial.data l.data
