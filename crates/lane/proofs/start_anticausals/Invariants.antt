-- `lane::start_anticausals` meets its contract.
use Prim.Native.Nat.{ℕ, ◌≤◌, ◌<◌}
use mathlib.Core.List.{List}
use lib.ListN.{length, get_or}
use lib.Ieee.{Float}
use Rattle.lane.specs.Bookkeeping.{lanes_in, anticausal_start}
use Rattle.lane.proofs.Lines.{Through}
use Rattle.lane.proofs.start_anticausals.Given as goal

abbrev pub invariant-loop-line : goal.invariant-loop-line
invariant-loop-line g l =
    Through (anticausal_start l.reflect l.z) l.line-index (lanes_in l.n l.initial.lines) (lanes_in l.n l.lines) × ((m : ℕ) (d : List Float) → m < l.line-index → l.n ≤ length (get_or l.lines m d))
