-- `prefilter::filter_volume` meets its contract: the axes below `axis` are filtered.
use mathlib.Core.Path.{◌≡◌, sym, ◌∙◌}
use native.Mathlib.Omega.{arith}
use Rattle.prefilter.proofs.Axes.{no_turn, next_turn, three_turns}
use Rattle.prefilter.proofs.filter_volume.Goals as goal

pub loop-axis-init : goal.loop-axis-init
loop-axis-init c = sym (no_turn _ _ _ _)

pub loop-axis-preserved : goal.loop-axis-preserved
loop-axis-preserved c = c.filter_axis.ensures ∙ rw c.loop-axis.invariant (next_turn _ _ _ _ _)

pub returns : goal.returns
returns c =
    let three : c.loop-axis.axis ≡ 3 = omega arith in
    (rw three at c.loop-axis.invariant) ∙ three_turns _ _ _ _
