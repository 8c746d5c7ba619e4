-- `voxels::sum::add_x` meets its contract. The loop's invariant: each lane has the sum of the first k planes.
use Prim.Native.Nat.{ℕ, ◌<◌}
use mathlib.Core.Path.{refl}
use native.Mathlib.Omega.{arith}
use Rattle.voxels.specs.Sum.{sum_x}
use Rattle.voxels.proofs.Sums.{lane_of, turn_x_lent}
use Rattle.voxels.proofs.sum.add_x.Goals as goal

pub loop-k-init : goal.loop-k-init
unfolding sum_x
loop-k-init c = λ j. refl

pub plane_at-requires : goal.plane_at-requires
plane_at-requires c = (omega arith, c.args.row.now.in_source.planes c.loop-k.k (omega arith))

pub loop-k-preserved : goal.loop-k-preserved
loop-k-preserved c = λ j. turn_x_lent _ _ _ _ _ _ _ (lane_of (λ (i : ℕ). i < c.args.row.now.source.plane) c.args.at c.requires j) (c.loop-k.invariant j) (rw c.plane_at.ensures.places at (c.step-t.ensures j))
