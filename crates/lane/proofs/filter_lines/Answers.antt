-- `lane::filter_lines` meets its contract.
use mathlib.Core.Path.{◌≡◌, sym, ◌∙◌}
use mathlib.Core.List.{[]}
use lib.ListN.{drop}
use Rattle.std.proofs.lemmas.List.{drop_all}
use Rattle.lane.proofs.Filters.{scaled, next_pole, no_pole}
use Rattle.lane.proofs.filter_lines.Goals as goal

pub loop-pole-init : goal.loop-pole-init
loop-pole-init g c = rw c.scales.ensures (scaled _ _ _ _)

pub loop-pole-preserved : goal.loop-pole-preserved
loop-pole-preserved g c = rw c.pass_pole.ensures (next_pole _ _ _ _ _ c.loop-pole-test.true) ∙ c.loop-pole.invariant

pub returns : goal.returns
returns g c =
    let done : drop c.loop-pole.pole-index c.args.filter.poles.now ≡ [] = drop_all _ _ c.loop-pole-test.false in
    sym (no_pole _ [] _) ∙ (rw done at c.loop-pole.invariant)
