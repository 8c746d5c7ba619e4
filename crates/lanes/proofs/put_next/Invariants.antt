-- `lanes::put_next` meets its contract: the first k lines are written back.
use Prim.Native.Nat.{◌+◌, ◌-◌}
use mathlib.Core.List.{[]}
use lib.ListN.{get_or, take}
use Rattle.lanes.specs.Bookkeeping.{Replaced}
use Rattle.lanes.proofs.put_next.Given as goal

abbrev pub invariant-loop-k : goal.invariant-loop-k
invariant-loop-k g l = Replaced l.grid l.j (l.j + l.k) (λ m. take l.grid.size (get_or l.lines (m - l.j) [])) l.initial.data l.data
