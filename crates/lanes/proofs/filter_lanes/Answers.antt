-- `lanes::filter_lanes` meets its contract: the lanes below j are filtered, and the others are as they were.
use mathlib.Core.Path.{refl}
use native.Mathlib.Omega.{arith}
use Rattle.lane.specs.Bookkeeping.{filter_by}
use Rattle.lanes.proofs.Replacements.{further, all}
use Rattle.lanes.proofs.filter_lanes.Goals as goal

pub loop-j-preserved : goal.loop-j-preserved
loop-j-preserved g c = further (filter_by c.args.filter) (omega arith) c.loop-j.invariant c.filter_next.ensures

pub returns : goal.returns
returns g c = all c.requires.fills (filter_by c.args.filter) refl c.loop-j-test.false c.loop-j.invariant

-- the last turn, where no more lanes than lines were left
pub returns-2 : goal.returns-2
returns-2 g c = all c.requires.fills (filter_by c.args.filter) refl (omega arith) (further (filter_by c.args.filter) (omega arith) c.loop-j.invariant c.filter_next.ensures)
