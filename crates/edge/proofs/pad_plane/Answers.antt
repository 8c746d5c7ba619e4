-- `edge::pad_plane` meets its contract: the first j rows are those of the padded plane.
use Prim.Native.Nat.{◌+◌, ◌*◌, ◌-◌, ◌≤◌, ◌<◌}
use mathlib.Core.Path.{◌≡◌, sym, ◌∙◌}
use native.Mathlib.Omega.{arith}
use lib.ListN.{length, take, drop}
use Rattle.limits.specs.Limits.{wide_of}
use Rattle.edge.specs.Edge.{clamped}
use Rattle.prefilter.proofs.Blocks.{within, lent}
use Rattle.edge.proofs.Edges.{next_copied, clamped_within, at_row, is_plane}
use Rattle.edge.proofs.pad_plane.Goals.{After-clamp}
use Rattle.edge.proofs.pad_plane.Goals as goal

-- ---- the row that is written and the one that is read lie in their planes
target : (c : After-clamp) → c.loop-j.j * c.wide_of-wide.result + c.wide_of-wide.result ≤ length c.args.to.now
target c =
    let long : length c.args.to.now ≡ c.wide_of-j-end.result * c.wide_of-wide.result = c.requires.to_len ∙ (λ i. sym c.wide_of-j-end.ensures i * sym c.wide_of-wide.ensures i) in
    omega (arith, long, within c.loop-j.j c.wide_of-j-end.result c.wide_of-wide.result (omega arith))

source : (c : After-clamp) → c.clamp.result * c.args.row + c.args.row ≤ length c.args.from.now
source c =
    let a = c.args in
    let low : c.clamp.result < a.rows = rw c.clamp.ensures (clamped_within _ _ c.requires.le_rows.0) in
    omega (arith, within c.clamp.result a.rows a.row low)

pub slice_bounds-pad_row-end : goal.slice_bounds-pad_row-end
slice_bounds-pad_row-end c = omega (arith, target (goal.at.slice_bounds-pad_row-end c).After-clamp, c.loop-j.invariant.same)

pub loop-j-preserved : goal.loop-j-preserved
loop-j-preserved c =
    let t = (goal.at.loop-j-preserved c).After-clamp in
    let call = c.pad_row in
    let a = c.args in
    let from = a.from.now in
    let s = c.clamp.result * a.row in
    next_copied a.rows a.row c.wide_of-wide.result (clamped a.row) from (λ m h. clamped_within a.row m c.requires.le_row.0) _ _ _ _ _ _ c.loop-j.invariant (target t) c.clamp.ensures call.auto.to call.ensures (at_row a.row c.wide_of-wide.ensures (take (s + a.row - s) (drop s from)) (lent from s a.row (source t)))

pub returns : goal.returns
returns c =
    let here = c.loop-j in
    let all : here.j ≡ wide_of c.args.rows = omega (arith, c.wide_of-j-end.ensures) in
    is_plane c.args.rows c.args.row c.args.from.now here.to (here.invariant.same ∙ c.requires.to_len) (rw (c.wide_of-wide.ensures, all) at here.invariant.filled)
