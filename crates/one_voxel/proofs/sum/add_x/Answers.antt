-- `one_voxel::sum::add_x` meets its contract: the sum of the first k planes.
use mathlib.Core.Path.{refl, ap}
use mathlib.Core.List.{List}
use lib.ListN.{get_or}
use lib.Ieee.{Float, nan}
use Rattle.voxels.specs.Sum.{term, sum_x}
use Rattle.voxels.proofs.Sums.{turn_x_lent}
use Rattle.one_voxel.proofs.sum.add_x.Goals as goal

pub loop-k-init : goal.loop-k-init
unfolding sum_x
loop-k-init c = refl

pub loop-k-preserved : goal.loop-k-preserved
loop-k-preserved c = turn_x_lent _ _ _ _ _ _ _ c.requires c.loop-k.invariant (ap (λ (p : List Float). term c.loop-k.t (get_or p c.args.place nan) (get_or c.args.r.now.x.now.weight c.loop-k.k nan) c.args.v) c.plane_at.ensures.places)
