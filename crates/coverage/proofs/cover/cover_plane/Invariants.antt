-- `coverage::cover::cover_plane` meets its contract: the rows so far are written.
use Prim.Native.Nat.{◌*◌}
use lib.ListN.{length}
use Rattle.lists.proofs.Stretches.{Written}
use Rattle.coverage.specs.Bookkeeping.{code_in_plane}
use Rattle.coverage.proofs.cover.cover_plane.Given as goal

abbrev pub invariant-loop-j : goal.invariant-loop-j
invariant-loop-j l = Written (code_in_plane l.first l.ys l.zs) 0 l.row (length l.ys * l.row) l.plane l.j
