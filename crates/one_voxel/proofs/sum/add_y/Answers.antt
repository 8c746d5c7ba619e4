-- `one_voxel::sum::add_y` meets its contract: the sums of the first k rows.
use mathlib.Core.Path.{refl}
use Rattle.voxels.specs.Sum.{sum_y}
use Rattle.voxels.proofs.Sums.{turn_y}
use Rattle.one_voxel.proofs.sum.add_y.Goals as goal

pub loop-k-init : goal.loop-k-init
unfolding sum_y
loop-k-init c = refl

pub loop-k-preserved : goal.loop-k-preserved
loop-k-preserved c = turn_y _ _ _ _ _ _ _ _ _ _ c.loop-k.invariant (rw c.row_at-start.ensures.start refl) refl c.add_x-t.ensures
