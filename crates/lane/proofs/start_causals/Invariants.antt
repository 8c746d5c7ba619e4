-- `lane::start_causals` meets its contract.
use Rattle.lane.specs.Bookkeeping.{lanes_in, causal_start}
use Rattle.lane.proofs.Lines.{Through}
use Rattle.lane.proofs.start_causals.Given as goal

abbrev pub invariant-loop-line : goal.invariant-loop-line
invariant-loop-line g l = Through (causal_start l.reflect l.pole) l.line-index (lanes_in l.n l.initial.lines) (lanes_in l.n l.lines)
