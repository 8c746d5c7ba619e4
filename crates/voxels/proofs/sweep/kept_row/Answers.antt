-- `voxels::sweep::kept_row` meets its contract: at order 0 the voxels are copied, else the sums are taken.
use Prim.Native.Nat.{ℕ, ◌+◌, ◌*◌, ◌<◌}
use mathlib.Core.Path.{sym, ap, ◌∙◌}
use mathlib.Core.Bool.{false, cond}
use native.Mathlib.Nat.{zero-add}
use native.Mathlib.Omega.{arith}
use lib.Ieee.{Float, nan}
use lib.ListN.{length, get_or}
use Rattle.lists.proofs.Tabulated.{tabulate_same}
use Rattle.lists.proofs.Stretches.{in_part}
use Rattle.voxels.specs.Voxel.{tap_of}
use Rattle.voxels.specs.Bookkeeping.{column}
use Rattle.voxels.proofs.Sums.{in_plane}
use Rattle.voxels.proofs.Sweeping.{computed_copy, computed-sum}
use Rattle.voxels.proofs.sweep.kept_row.Goals.{Start}
use Rattle.voxels.proofs.sweep.kept_row.Goals as goal

-- at order 0: a place of the row lies in the plane
inside : (s : Start) (k : ℕ) → k < 4096 → get_or s.args.row.now.y.now.at 0 0 * s.args.row.now.source.row + get_or s.args.row.now.table.now.at k 0 < s.args.row.now.source.plane
inside s k h = in_plane s.args.row.now 0 _ (omega arith) (s.args.row.now.inside k (omega arith))

pub plane_at-plane-requires : goal.plane_at-plane-requires
plane_at-plane-requires c =
    let h = inside (goal.at.plane_at-plane-requires c).Start 0 (omega arith) in
    (omega (arith, h), c.args.row.now.in_source.planes 0 (omega arith))

pub row_at-start-requires : goal.row_at-start-requires
row_at-start-requires c = c.args.row.now.in_source.rows 0 (omega arith)

pub returns-then-source-eq0 : goal.returns-then-source-eq0
returns-then-source-eq0 c =
    let a = c.args in
    let s = a.row.now.source in
    c.copy_row.ensures
    ∙ tabulate_same (length a.out.now) _ _ (λ k h.
    let in-row = inside (goal.at.returns-then-source-eq0 c).Start k (omega arith) in
    ap (λ (v : Float). cond (get_or a.row.now.table.now.kept k false) v a.dropped)
    (rw (c.plane_at-plane.ensures.places, c.row_at-start.ensures.start) (in_part nan s.numbers.now (get_or a.row.now.x.now.at 0 0 * s.plane) s.plane _ in-row)
    ∙ computed_copy s.order s.numbers.now s.plane s.row (tap_of a.row.now.x.now) (tap_of a.row.now.y.now) (column a.row.now.table.now k) c.if-source-eq0.true (ap (λ (m : ℕ). get_or a.row.now.table.now.at m 0) (sym (zero-add k)))))

pub returns-else-source-eq0 : goal.returns-else-source-eq0
returns-else-source-eq0 c =
    let a = c.args in
    let s = a.row.now.source in
    c.sum_row.ensures
    ∙ tabulate_same (length a.out.now) _ _ (λ k _. ap (λ (v : Float). cond (get_or a.row.now.table.now.kept k false) v a.dropped) (computed-sum s.order s.numbers.now s.plane s.row (tap_of a.row.now.x.now) (tap_of a.row.now.y.now) (column a.row.now.table.now k) c.if-source-eq0.false))
