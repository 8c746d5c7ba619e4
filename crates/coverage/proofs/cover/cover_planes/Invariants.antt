-- `coverage::cover::cover_planes` meets its contract: the planes so far are written.
use Prim.Native.Nat.{◌*◌}
use lib.ListN.{length}
use Rattle.lists.proofs.Stretches.{Written}
use Rattle.coverage.specs.Bookkeeping.{code_by_axes}
use Rattle.coverage.proofs.cover.cover_planes.Given as goal

abbrev pub invariant-loop-i : goal.invariant-loop-i
invariant-loop-i l = Written (code_by_axes l.xs l.ys l.zs) 0 l.plane (length l.xs * l.plane) l.coverage l.i
