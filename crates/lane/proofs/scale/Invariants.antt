-- `lane::scale` meets its contract.
use Rattle.exact.specs.Rounded.{◌⊗◌}
use Rattle.lane.proofs.Lines.{Through}
use Rattle.lane.proofs.scale.Given as goal

abbrev pub invariant-loop-x : goal.invariant-loop-x
invariant-loop-x l = Through (λ x. x ⊗ l.gain) l.x-index l.initial.x-items l.x-items
