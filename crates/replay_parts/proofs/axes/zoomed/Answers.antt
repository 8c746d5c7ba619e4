-- `replay_parts::axes::zoomed` meets its contract.
use Rattle.replay_parts.proofs.Reaching.{zoom_reachable}
use Rattle.replay_parts.proofs.axes.zoomed.Goals as goal

pub returns-then-output-le-LONGEST : goal.returns-then-output-le-LONGEST
returns-then-output-le-LONGEST c = let a = c.args in zoom_reachable a.length a.pad c.requires a.output c.if-output-ge2.true c.if-output-le-LONGEST.true c.zoom_axis.ensures
