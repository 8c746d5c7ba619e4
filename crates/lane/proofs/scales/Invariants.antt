-- `lane::scales` meets its contract.
use mathlib.Core.List.{map}
use Rattle.exact.specs.Rounded.{◌⊗◌}
use Rattle.lane.specs.Bookkeeping.{lanes_in}
use Rattle.lane.proofs.Lines.{Through}
use Rattle.lane.proofs.scales.Given as goal

abbrev pub invariant-loop-line : goal.invariant-loop-line
invariant-loop-line g l = Through (map (λ x. x ⊗ l.gain)) l.line-index (lanes_in l.n l.initial.lines) (lanes_in l.n l.lines)
