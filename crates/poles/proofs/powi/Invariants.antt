-- `poles::powi` meets its contract: what is left of the squarings does not change from turn to turn.
use mathlib.Core.Path.{◌≡◌}
use Rattle.poles.specs.Power.{squarings, power}
use Rattle.poles.proofs.powi.Given as goal

abbrev pub invariant-loop-b : goal.invariant-loop-b
invariant-loop-b l = squarings l.b l.r l.a l.b ≡ power l.x l.n

abbrev pub decreases-loop-b : goal.decreases-loop-b
decreases-loop-b l = l.b
