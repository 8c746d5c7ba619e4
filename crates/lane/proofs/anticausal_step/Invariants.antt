-- `lane::anticausal_step` meets its contract.
use Rattle.lane.specs.Bookkeeping.{anticausal_step}
use Rattle.lane.proofs.Lines.{Through}
use Rattle.lane.proofs.anticausal_step.Given as goal

abbrev pub invariant-loop-line : goal.invariant-loop-line
invariant-loop-line g l = Through (anticausal_step l.z l.i) l.line-index l.initial.lines l.lines
