-- `lane::causal_step` meets its contract.
use Rattle.lane.specs.Bookkeeping.{causal_step}
use Rattle.lane.proofs.Lines.{Through}
use Rattle.lane.proofs.causal_step.Given as goal

abbrev pub invariant-loop-line : goal.invariant-loop-line
invariant-loop-line g l = Through (causal_step l.z l.i) l.line-index l.initial.lines l.lines
