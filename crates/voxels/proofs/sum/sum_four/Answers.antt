-- `voxels::sum::sum_four` meets its contract. The loop's invariant: each lane has the sums of the first k neighbours on the last axis, from 0.0 on.
use Prim.Native.Nat.{ℕ, ◌+◌, ◌<◌}
use mathlib.Core.Path.{◌≡◌, refl}
use native.Mathlib.Omega.{arith}
use lib.Ieee.{nan, of_bits, of_int}
use Rattle.voxels.specs.Sum.{sum_z, sum_at}
use Rattle.voxels.specs.Bookkeeping.{lane}
use Rattle.voxels.proofs.Sums.{in_each, each_of, lane_below, turn_z_tabled}
use Rattle.voxels.proofs.sum.sum_four.Goals as goal

pub loop-k-init : goal.loop-k-init
unfolding sum_z of_bits of_int
loop-k-init c = in_each _ refl refl refl (λ j. refl)

pub add_y-t-requires : goal.add_y-t-requires
add_y-t-requires c =
    each_of (λ (i : ℕ). i < c.args.row.now.source.row) c.four_at-places.result (λ j. rw (c.four_at-places.ensures j 0) (c.args.row.now.inside _ (omega (arith, lane_below j))))

pub loop-k-preserved : goal.loop-k-preserved
loop-k-preserved c =
    let a = c.args in
    λ j. turn_z_tabled _ _ _ _ _ _ a.row.now.table.now a.o (lane j) c.loop-k.k (c.loop-k.invariant j) (c.four_at-places.ensures j 0) (c.four_at-weights.ensures j nan) (c.add_y-t.ensures j)

pub returns : goal.returns
unfolding sum_at
returns c =
    let e : c.loop-k.k ≡ c.args.row.now.source.order + 1 = omega arith in
    rw e at c.loop-k.invariant
