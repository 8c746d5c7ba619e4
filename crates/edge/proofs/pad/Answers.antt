-- `edge::pad` meets its contract: the first i planes are those of the padded volume.
use Prim.Native.Nat.{◌+◌, ◌*◌, ◌≤◌, ◌<◌}
use mathlib.Core.Path.{◌≡◌, sym, ◌∙◌}
use native.Mathlib.Omega.{arith}
use lib.Dec.{lit≤}
use lib.ListN.{length, get_or}
use Rattle.limits.specs.Limits.{wide_of}
use Rattle.prefilter.proofs.Axes.{some}
use Rattle.prefilter.proofs.Blocks.{within}
use Rattle.edge.proofs.Edges.{next_copied, clamped_within, in_plane, in-plane, at_plane, plane_of, wide_plane_of, is_padded}
use Rattle.edge.proofs.pad.Goals.{After-clamp}
use Rattle.edge.proofs.pad.Goals as goal

-- ---- the plane that is written and the one that is read lie in their volumes
wide_is : (c : After-clamp) → c.wide_of.result * c.wide_of-2.result ≡ wide_plane_of c.args.dims
wide_is c = λ i. c.wide_of.ensures i * c.wide_of-2.ensures i

target : (c : After-clamp) → let wide = c.wide_of.result * c.wide_of-2.result in c.loop-i.i * wide + wide ≤ length c.args.to.now
target c =
    let wide = c.wide_of.result * c.wide_of-2.result in
    let long : length c.args.to.now ≡ c.wide_of-i-end.result * wide = c.requires.to_len ∙ (λ i. sym c.wide_of-i-end.ensures i * sym (wide_is c) i) in
    omega (arith, long, within c.loop-i.i c.wide_of-i-end.result wide (omega arith))

source : (c : After-clamp) → c.clamp.result * plane_of c.args.dims + plane_of c.args.dims ≤ length c.args.from.now
source c =
    let d = c.args.dims in
    let low : c.clamp.result < get_or d 0 0 = rw c.clamp.ensures (clamped_within _ _ (some c.requires.sized 0 (lit≤ tt))) in
    omega (arith, within c.clamp.result (get_or d 0 0) (plane_of d) low, c.requires.sized.all)

pub overflow_mul-s : goal.overflow_mul-s
overflow_mul-s c = omega (arith, source c)

pub slice_bounds-pad_plane-end : goal.slice_bounds-pad_plane-end
slice_bounds-pad_plane-end c = omega (arith, target (goal.at.slice_bounds-pad_plane-end c).After-clamp, c.loop-i.invariant.same)

pub overflow_add-s : goal.overflow_add-s
overflow_add-s c = omega (arith, source (goal.at.overflow_add-s c).After-clamp)

pub offset_bounds-from-s : goal.offset_bounds-from-s
offset_bounds-from-s c = omega (arith, source (goal.at.offset_bounds-from-s c).After-clamp)

pub slice_bounds-pad_plane-end-in-loop-i : goal.slice_bounds-pad_plane-end-in-loop-i
slice_bounds-pad_plane-end-in-loop-i c = omega (arith, source (goal.at.slice_bounds-pad_plane-end-in-loop-i c).After-clamp)

pub loop-i-preserved : goal.loop-i-preserved
loop-i-preserved c =
    let t = (goal.at.loop-i-preserved c).After-clamp in
    let call = c.pad_plane in
    let z = c.requires.sized in
    let rows = get_or c.args.dims 1 0 in
    let row = get_or c.args.dims 2 0 in
    next_copied (get_or c.args.dims 0 0) (rows * row) (c.wide_of.result * c.wide_of-2.result) (in_plane rows row) c.args.from.now (λ m h. in-plane rows row m (some z 1 (lit≤ tt)) (some z 2 (lit≤ tt))) _ _ _ _ _ _ c.loop-i.invariant (target t) c.clamp.ensures call.auto.to call.ensures (at_plane rows row (wide_is t) _)

pub returns : goal.returns
returns c =
    let a = c.args in
    let here = c.loop-i in
    let all : here.i ≡ wide_of (get_or a.dims 0 0) = omega (arith, c.wide_of-i-end.ensures) in
    let plane : c.wide_of.result * c.wide_of-2.result ≡ wide_plane_of a.dims = λ i. c.wide_of.ensures i * c.wide_of-2.ensures i in
    is_padded a.dims a.from.now here.to (here.invariant.same ∙ c.requires.to_len) (rw (plane, all) at here.invariant.filled)
