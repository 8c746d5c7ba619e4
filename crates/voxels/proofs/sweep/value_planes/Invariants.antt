-- `voxels::sweep::value_planes` meets its contract: the planes so far are written.
use Prim.Native.Nat.{◌*◌}
use lib.Ieee.{nan}
use Rattle.lists.proofs.Stretches.{Written}
use Rattle.voxels.specs.Bookkeeping.{volume_value}
use Rattle.voxels.proofs.sweep.value_planes.Given as goal

abbrev pub invariant-loop-i : goal.invariant-loop-i
invariant-loop-i l = Written (volume_value l.mode l.source l.table l.xa l.ya) nan l.size (l.xa.out * l.size) l.out l.i
