-- `replay_parts::axes::shifted` meets its contract: a shift within 2^20 reaches every index.
use lib.Ieee.{of_bits, neg}
use Rattle.exact.proofs.Value.{of_true}
use Rattle.exact.proofs.Withins.{within_of_tests}
use Rattle.replay_parts.proofs.Reaching.{shift_reachable}
use Rattle.replay_parts.proofs.axes.shifted.Goals as goal

pub returns-then-shift-2 : goal.returns-then-shift-2
unfolding of_bits neg
returns-then-shift-2 c = let a = c.args in shift_reachable a.length a.pad c.requires a.shift (within_of_tests {k = 20} a.shift (of_true _ c.if-shift.true) (of_true _ c.if-shift-2.true)) c.shift_axis.ensures
