-- `lane::filter_lines` meets its contract.
use mathlib.Core.Path.{◌≡◌}
use mathlib.Core.List.{map}
use lib.ListN.{drop}
use Rattle.lane.specs.Lane.{pass_poles}
use Rattle.lane.specs.Bookkeeping.{lanes_in, filter_by}
use Rattle.lane.proofs.filter_lines.Given as goal

abbrev pub invariant-loop-pole : goal.invariant-loop-pole
invariant-loop-pole g l = map (pass_poles l.filter.reflect (drop l.pole-index l.filter.poles.now)) (lanes_in l.n l.lines) ≡ map (filter_by l.filter) (lanes_in l.n l.fn.lines)
