-- `voxels::sum::add_y` meets its contract. The loop's invariant: each lane has the sums of the first k rows.
use Prim.Native.Nat.{ℕ, ◌+◌, ◌*◌, ◌<◌}
use mathlib.Core.Path.{◌≡◌, refl}
use Rattle.std.proofs.Common.{of_calls}
use native.Mathlib.Omega.{arith}
use lib.ListN.{get_or}
use Rattle.voxels.specs.Sum.{sum_y}
use Rattle.voxels.specs.Bookkeeping.{at_lane}
use Rattle.voxels.proofs.Sums.{each_of, lane_of, in_plane, turn_y}
use Rattle.voxels.proofs.sum.add_y.Goals.{In-loop-k}
use Rattle.voxels.proofs.sum.add_y.Goals as goal

-- row k of the plane has each place
inside : (c : In-loop-k) (j : ℕ) → get_or c.args.row.now.y.now.at c.loop-k.k 0 * c.args.row.now.source.row + at_lane c.args.z j < c.args.row.now.source.plane
inside c j = in_plane c.args.row.now c.loop-k.k _ (omega arith) (lane_of (λ (i : ℕ). i < c.args.row.now.source.row) c.args.z c.requires j)

pub loop-k-init : goal.loop-k-init
unfolding sum_y
loop-k-init c = λ j. refl

pub add_x-t-requires : goal.add_x-t-requires
add_x-t-requires c = each_of (λ (i : ℕ). i < c.args.row.now.source.plane) c.map.result (λ j. let e : at_lane c.map.result j ≡ get_or c.args.row.now.y.now.at c.loop-k.k 0 * c.args.row.now.source.row + at_lane c.args.z j = search (of_calls, c.map.ensures j) in rw e (inside (goal.at.add_x-t-requires c).In-loop-k j))

pub loop-k-preserved : goal.loop-k-preserved
loop-k-preserved c = λ j. turn_y _ _ _ _ _ _ _ _ _ _ (c.loop-k.invariant j) (search (of_calls, c.map.ensures j)) (search (of_calls, c.map-in-loop-k.ensures j)) (c.add_x-t.ensures j)

pub row_at-start-requires : goal.row_at-start-requires
row_at-start-requires c = c.args.row.now.in_source.rows c.loop-k.k (omega arith)
