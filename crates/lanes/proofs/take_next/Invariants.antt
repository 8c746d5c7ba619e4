-- `lanes::take_next` meets its contract: the first k lines hold their lanes.
use Prim.Native.Nat.{ℕ, ◌+◌, ◌*◌, ◌<◌}
use mathlib.Core.Path.{◌≡◌}
use mathlib.Core.List.{[]}
use lib.ListN.{get_or, length, take}
use Rattle.lanes.specs.Along.{lane_of}
use Rattle.lanes.proofs.take_next.Given as goal

abbrev pub invariant-loop-k : goal.invariant-loop-k
invariant-loop-k g l =
    (length l.lines ≡ g.row.LINES) × ((m : ℕ) → m < l.k → l.j + m < l.grid.lanes → take l.grid.size (get_or l.lines m []) ≡ lane_of l.grid.size l.grid.stride ((l.j + m) * l.grid.step) l.data)
