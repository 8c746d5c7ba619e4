-- "It never yields code 2 and never refusal 9": in Replicate no voxel is dropped, whatever the entry, order and flag; and at orders 0 and 1 each bears code 0.
use Prim.Native.Nat.{ℕ, zero, suc, ◌+◌, ◌-◌, ◌*◌, ◌^◌, ◌≤◌, ◌<◌}
use native.Mathlib.Omega.{arith}
use mathlib.Core.Path.{◌≡◌, sym, ◌∙◌, subst}
use mathlib.Core.Logic.{◌⊎◌, inl, inr, ⊎_elim}
use mathlib.Core.Bool.{false, ◌||◌}
use mathlib.Core.List.{List}
use lib.Dec.{lit≤, lit<}
use lib.ListN.{length, get_or}
use lib.Ieee.{Float, nan}
use Rattle.exact.specs.Within.{Within}
use Rattle.exact.proofs.Upto.{Upto, upto_top}
use Rattle.border.specs.declared.BorderMode.{BorderMode}
use Rattle.border.specs.declared.BorderMode.TheVariants.{Replicate}
use Rattle.axis.specs.declared.coordinate.Axis.{Axis}
use Rattle.axis.specs.Coordinate.{settled}
use Rattle.axis.specs.Folded.{folded_at}
use Rattle.axis.specs.Bookkeeping.{Reached}
use Rattle.axis.proofs.Coordinates.{low_pad}
use Rattle.axis.proofs.Reaches.{shift_reaches}
use Rattle.axis.proofs.Points.{long_order}
use Rattle.axis.proofs.Singles.{Lone, lone_unfolded}
use Rattle.axis.proofs.Folding.{Padded, order_0_unfolded, order_1_unfolded}
use Rattle.axis.proofs.Settling.{replicate_upto}
use Rattle.refusal.specs.Refusals.{number_in}
use Rattle.coverage.specs.declared.counts.Counts.{Counts}
use Rattle.coverage.specs.Coverage.{code_by, own_code, kept_at}
use Rattle.request.specs.declared.Request.{Request}
use Rattle.request.specs.Sizes.{padding}
use Rattle.request.specs.Bookkeeping.{Lengths}
use Rattle.request.proofs.Requests.{good_lengths}
use Rattle.resample.specs.Call.{counts_in}
use Rattle.refusal.proofs.Admitting.{good_shifts}
use Rattle.promises.specs.Entries.{Entry, shifting, zooming, call, axes_of, axis_at, output_dims}
use Rattle.promises.specs.Place.{Inside, code}
use Rattle.promises.specs.Marks.{pad_on}
use Rattle.promises.proofs.Succeeding.{succeeds}
use Rattle.promises.proofs.Slices.{moves, longer_or_lone, each_axis}
use Rattle.promises.proofs.Places.{code_is}
use Rattle.promises.proofs.Marked.{admits}
use Rattle.promises.proofs.Given.{success_exactly}
use Rattle.promises.proofs.Spans.{Spans, spans_kept, spans_not_beside, replicate_spans, lone_spans}
use Rattle.promises.proofs.Keeping.{AllSpan, Clear, all_kept, kept_never_beside, kept_no_drop, kept_counted}
use Rattle.promises.proofs.Zooming.{zooming_spans}
use Rattle.promises.proofs.WholePoint.{whole_unfolded}

-- ---- an axis without a pad, at orders 0 and 1: the coordinate lies between two voxels, or is the last
pub low_unfolded : (a : Axis) {length : ℕ} → Padded a length 0 → 2 ≤ length → (i order : ℕ) → order ≤ 1 → Reached order a i → folded_at order Replicate a i ≡ false
unfolding kept_at
low_unfolded a b two i zero low r = let s = replicate_spans b two i r.bound in order_0_unfolded 0 Replicate a i (long_order a.len 0 (omega (arith, b.long))) b.stands r (spans_kept s) (spans_not_beside s)
low_unfolded a {length} b two i (suc zero) low r =
    let long = b.long in
    let short = b.short in
    let e : (length - 1) * 2 ^ 14 + 0 * 2 ^ 14 ≡ (length - 1) * 2 ^ 14 = omega arith in
    elim (upto_top (omega arith) (subst (λ (u : ℕ). Upto u (settled Replicate a i)) e (replicate_upto b two i r.bound))) [
      | inl k ↦ order_1_unfolded Replicate b i k.2 (omega (arith, k.1))
      | inr is ↦ whole_unfolded Replicate a i b.stands short is 1 (lit≤ tt) (omega arith)
    ]
low_unfolded a b two i (suc (suc order)) low r = absurd (omega (arith, low))

-- ---- the axes of a request in Replicate
module _ (r : Request) (mode : r.mode ≡ Replicate) where
  in-replicate : (P : BorderMode → Type 0) → P Replicate → P r.mode
  in-replicate P h = subst P (sym mode) h

  abbrev axis : ℕ → Axis
  axis c = axis_at shifting r c

  -- of `shift`, whose lengths and shifts refusals 3, 4 and 12 let pass
  shifting_spans : Lengths r.dims → moves r shifting ≡ false → ((c : ℕ) → c < 3 → Within 20 (get_or r.factors c nan)) → (c : ℕ) → c < 3 → Padded (axis c) (get_or r.dims c 0) (padding r c) → (i : ℕ) → i < get_or r.dims c 0 → Spans r.mode (axis c) i
  shifting_spans d still w c h b i l =
      ⊎_elim
      (λ two. in-replicate (λ m. Spans m (axis c) i) (replicate_spans b two i (shift_reaches (get_or r.dims c 0) (get_or r.factors c nan) (padding r c) i (w c h) (omega (arith, (d c h).1)))))
      (lone_spans r.mode) (longer_or_lone r shifting still d c h i l)

  -- of either entry, at orders 0 and 1
  unfolded : r.order ≤ 1 → (a : Axis) {length : ℕ} → Padded a length (pad_on r length) → (i : ℕ) → (2 ≤ length) ⊎ Lone a i → Reached r.order a i → folded_at r.order r.mode a i ≡ false
  unfolded low a {length} b i which reached =
      let plain = subst (λ (pad : ℕ). Padded a length pad) (low_pad r.mode r.prefilter r.order length low) b in
      ⊎_elim (λ two. in-replicate (λ m. folded_at r.order m a i ≡ false) (low_unfolded a plain two i r.order low reached)) (λ l. lone_unfolded r.mode l r.order) which

-- ---- the promises of `shift` and `zoom`
module _ (e : Entry) (r : Request) (input output : List Float) (coverage : List ℕ) (work : List Float) (mode : r.mode ≡ Replicate) where
  pub replicating_spans : Clear e r input output coverage work → AllSpan e r
  replicating_spans = go e
    where
      go : (e : Entry) → Clear e r input output coverage work → AllSpan e r
      go zooming clear = zooming_spans r input output coverage work clear
      go shifting clear =
          let d = good_lengths r.dims (clear 3 (λ e. omega (arith, e))) in
          let s = good_shifts r.factors (clear 4 (λ e. omega (arith, e))) in
          let b = admits shifting r d in
          let spans = shifting_spans r mode d (clear 12 (λ e. omega (arith, e))) s in
          record { x = spans 0 (lit< tt) b.x; y = spans 1 (lit< tt) b.y; z = spans 2 (lit< tt) b.z }

  abbrev number : ℕ
  number = number_in (call e r input output coverage work).answer

  abbrev codes : List ℕ
  codes = (call e r input output coverage work).coverage

  abbrev counts : Counts
  counts = counts_in (call e r input output coverage work).answer

  pub replicate_never_nine : number ≡ 9 → ⊥
  replicate_never_nine = kept_never_beside e r input output coverage work replicating_spans

  module _ (done : number ≡ 0) where
    pub replicate_drops_none : (i j k : ℕ) → Inside (output_dims e r) i j k → (code (output_dims e r) codes i j k ≡ 0) ⊎ (code (output_dims e r) codes i j k ≡ 3)
    replicate_drops_none = kept_no_drop e r input output coverage work replicating_spans done

    pub replicate_counts : (counts.computed + counts.folded ≡ length output) × (counts.filled ≡ 0) × (counts.defaulted ≡ 0)
    replicate_counts = kept_counted e r input output coverage work replicating_spans done

    pub replicate-low_orders : r.order ≤ 1 → (i j k : ℕ) → Inside (output_dims e r) i j k → code (output_dims e r) codes i j k ≡ 0
    unfolding own_code
    replicate-low_orders low i j k h =
        let s = succeeds r input output coverage work e done in
        let p = s.passes.admitted in
        let b = admits e r p.lengths in
        let kept = all_kept (replicating_spans (λ n l. (success_exactly e r input output coverage work).0 done n)) i j k h in
        let three = each_axis e r input output coverage work done i j k h in
        let x = unfolded r mode low (axes_of e r).x b.x i three.x (p.x.each i h.x) in
        let y = unfolded r mode low (axes_of e r).y b.y j three.y (p.y.each j h.y) in
        let z = unfolded r mode low (axes_of e r).z b.z k three.z (p.z.each k h.z) in
        code_is e r input output coverage work s i j k h ∙ (λ t. code_by r.mode (kept t) (x t || y t || z t))
