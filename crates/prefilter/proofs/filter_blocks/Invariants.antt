-- `prefilter::filter_blocks` meets its contract: the blocks below i are as the filter of the whole has them.
use Prim.Native.Nat.{◌*◌}
use mathlib.Core.Path.{◌≡◌}
use Rattle.lane.specs.Bookkeeping.{filter_by}
use Rattle.lanes.specs.Along.{filter_along}
use Rattle.prefilter.proofs.Blocks.{up_to}
use Rattle.prefilter.proofs.filter_blocks.Given as goal

abbrev pub invariant-loop-i : goal.invariant-loop-i
invariant-loop-i l = l.data ≡ up_to (l.i * (l.grid.lanes * l.grid.size)) (filter_along (filter_by l.filter) l.grid.size l.grid.stride l.initial.data) l.initial.data
