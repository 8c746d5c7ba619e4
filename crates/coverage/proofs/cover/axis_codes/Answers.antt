-- `coverage::cover::axis_codes` meets its contract: the codes so far are those of the indices passed.
use native.Mathlib.Omega.{arith}
use Rattle.lists.proofs.Stretches.{put}
use Rattle.coverage.proofs.cover.axis_codes.Goals as goal

pub loop-i-preserved : goal.loop-i-preserved
loop-i-preserved c = put _ _ c.loop-i.codes c.loop-i.i c.axis_code.result c.axis_code.ensures (omega arith) c.loop-i.invariant
