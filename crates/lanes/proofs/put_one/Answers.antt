-- `lanes::put_one` meets its contract.
use Rattle.lanes.proofs.Replacements.{one}
use Rattle.lanes.proofs.put_one.Goals as goal

pub returns-then-j-grid : goal.returns-then-j-grid
returns-then-j-grid c = one c.requires.fills c.if-j-grid.true c.put_lane.ensures
