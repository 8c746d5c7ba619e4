-- `voxels::sweep::value_plane` meets its contract: the rows so far are written.
use Prim.Native.Nat.{◌*◌}
use lib.Ieee.{nan}
use Rattle.lists.proofs.Stretches.{Written}
use Rattle.voxels.specs.Bookkeeping.{plane_value}
use Rattle.voxels.proofs.sweep.value_plane.Given as goal

abbrev pub invariant-loop-j : goal.invariant-loop-j
invariant-loop-j l = Written (plane_value l.mode l.source l.table l.x l.ya) nan l.width (l.ya.out * l.width) l.out l.j
