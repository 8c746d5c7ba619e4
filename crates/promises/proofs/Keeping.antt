-- Requests whose coordinates all settle inside their axes (`Spans`) lose no voxel: refusal 9 does not meet them, each code of a success is 0 or 3, and nothing is counted as filled or defaulted. Zoom's are such in every mode, and Replicate's in both entries.
use Prim.Native.Nat.{ℕ, ◌+◌, ◌≤◌, ◌<◌}
use native.Mathlib.Omega.{arith}
use mathlib.Core.Path.{◌≡◌, refl, sym, ◌∙◌}
use mathlib.Core.Logic.{◌⊎◌, inl, inr, ⊎_elim, ⊎_map}
use mathlib.Core.Bool.{Bool, true, false, ◌&&◌, ◌||◌, true≢false}
use mathlib.Core.List.{List}
use lib.Dec.{eqb, lit≤}
use lib.ListN.{length, get_or}
use lib.Ieee.{Float}
use Rattle.lists.proofs.Somes.{some_none}
use Rattle.axis.specs.declared.coordinate.Axis.{Axis}
use Rattle.axis.specs.Point.{beside_at, some_beside}
use Rattle.axis.specs.Folded.{folded_at}
use Rattle.coverage.specs.declared.counts.Counts.{Counts}
use Rattle.coverage.specs.Coverage.{code_by, own_code, kept_at}
use Rattle.request.specs.declared.Request.{Request}
use Rattle.request.specs.Conditions.{beside_any}
use Rattle.refusal.specs.declared.Refusal.TheVariants.{Beside}
use Rattle.refusal.specs.Refusals.{when, number_in}
use Rattle.resample.specs.Call.{counts_in}
use Rattle.promises.specs.Entries.{Entry, shifting, zooming, call, checks, axes_of, output_dims}
use Rattle.promises.specs.Given.{earlier, FirstToHold, NoneBut}
use Rattle.promises.specs.Place.{Inside, code}
use Rattle.promises.specs.Marks.{bearing}
use Rattle.promises.proofs.Given.{but_last, refusal_exactly, success_exactly}
use Rattle.promises.proofs.Succeeding.{succeeds}
use Rattle.promises.proofs.Places.{each_place, code_is}
use Rattle.promises.proofs.Counted.{counted}
use Rattle.promises.proofs.Tallies.{bearing-none}
use Rattle.promises.proofs.Spans.{Spans, spans_kept, spans_not_beside}

-- every output index of an axis, and of all three
abbrev AxisSpans : Request → Axis → Type 0
AxisSpans r a = (i : ℕ) → i < a.out → Spans r.mode a i

pub record AllSpan (e : Entry) (r : Request) : Type 0 where
  pub x : AxisSpans r (axes_of e r).x
  pub y : AxisSpans r (axes_of e r).y
  pub z : AxisSpans r (axes_of e r).z

module _ {e : Entry} {r : Request} (s : AllSpan e r) where
  none_beside : beside_any r (axes_of e r) ≡ false
  unfolding beside_any some_beside
  none_beside = simp (axis_inside (axes_of e r).x s.x, axis_inside (axes_of e r).y s.y, axis_inside (axes_of e r).z s.z) (go (eqb r.order 0))
    where
      axis_inside : (a : Axis) → AxisSpans r a → some_beside r.mode a ≡ false
      axis_inside a h = some_none (beside_at r.mode a) a.out (λ i l. spans_not_beside (h i l))

      go : (b : Bool) → (b && false) ≡ false
      go true = refl
      go false = refl

  pub all_kept : (i j k : ℕ) → Inside (output_dims e r) i j k → (kept_at r.mode (axes_of e r).x i && kept_at r.mode (axes_of e r).y j && kept_at r.mode (axes_of e r).z k) ≡ true
  all_kept i j k h = λ t. spans_kept (s.x i h.x) t && spans_kept (s.y j h.y) t && spans_kept (s.z k h.z) t

  all_computed : (i j k : ℕ) → Inside (output_dims e r) i j k →
      (own_code r.order r.mode (axes_of e r).x (axes_of e r).y (axes_of e r).z i j k ≡ 0) ⊎ (own_code r.order r.mode (axes_of e r).x (axes_of e r).y (axes_of e r).z i j k ≡ 3)
  unfolding own_code
  all_computed i j k h = go _ (all_kept i j k h) (folded_at r.order r.mode (axes_of e r).x i || folded_at r.order r.mode (axes_of e r).y j || folded_at r.order r.mode (axes_of e r).z k)
    where
      go : (all : Bool) → all ≡ true → (some : Bool) → (code_by r.mode all some ≡ 0) ⊎ (code_by r.mode all some ≡ 3)
      go all e false = inl (simp e)
      go all e true = inr (simp e)

-- ---- over the calls, where this follows once no refusal but 9 applies
module _ (e : Entry) (r : Request) (input output : List Float) (coverage : List ℕ) (work : List Float) where
  abbrev pub Clear : Type 0
  Clear = NoneBut (checks e r input (length output) (length coverage) (length work)) 9

  module _ (spans : Clear → AllSpan e r) where
    abbrev number : ℕ
    number = number_in (call e r input output coverage work).answer

    abbrev codes : List ℕ
    codes = (call e r input output coverage work).coverage

    pub kept_never_beside : number ≡ 9 → ⊥
    kept_never_beside q =
        let f = (refusal_exactly e r input output coverage work 9 (lit≤ tt)).0 q in
        true≢false (sym (ninth e f) ∙ none_beside (spans (but_nine e f)))
      where
        -- it is the last check
        but_nine : (e : Entry) → FirstToHold (checks e r input (length output) (length coverage) (length work)) 9 → NoneBut (checks e r input (length output) (length coverage) (length work)) 9
        but_nine shifting f = but_last (earlier (checks shifting r input (length output) (length coverage) (length work)) 9) (when Beside (beside_any r (axes_of shifting r))) f.before
        but_nine zooming f = but_last (earlier (checks zooming r input (length output) (length coverage) (length work)) 9) (when Beside (beside_any r (axes_of zooming r))) f.before

        ninth : (e : Entry) → FirstToHold (checks e r input (length output) (length coverage) (length work)) 9 → beside_any r (axes_of e r) ≡ true
        ninth shifting f = f.this
        ninth zooming f = f.this

    module _ (done : number ≡ 0) where
      spanned : AllSpan e r
      spanned = spans (λ n l. (success_exactly e r input output coverage work).0 done n)

      pub kept_no_drop : (i j k : ℕ) → Inside (output_dims e r) i j k → (code (output_dims e r) codes i j k ≡ 0) ⊎ (code (output_dims e r) codes i j k ≡ 3)
      kept_no_drop i j k h =
          let is = code_is e r input output coverage work (succeeds r input output coverage work e done) i j k h in
          ⊎_map (λ q. is ∙ q) (λ q. is ∙ q) (all_computed spanned i j k h)

      abbrev counts : Counts
      counts = counts_in (call e r input output coverage work).answer

      pub kept_counted : (counts.computed + counts.folded ≡ length output) × (counts.filled ≡ 0) × (counts.defaulted ≡ 0)
      kept_counted =
          let c = counted e r input output coverage work done in
          let long = c.codes ∙ (succeeds r input output coverage work e done).passes.values in
          let kept : (m : ℕ) → m < length codes → (get_or codes m 0 ≡ 0) ⊎ (get_or codes m 0 ≡ 3) = λ m l. each_place (output_dims e r) (λ (m : ℕ). (get_or codes m 0 ≡ 0) ⊎ (get_or codes m 0 ≡ 3)) kept_no_drop m (omega (arith, long)) in
          let none : (code : ℕ) → 1 ≤ code → code ≤ 2 → bearing code codes ≡ 0 = λ n a b. bearing-none n codes (λ m l q. ⊎_elim (λ z. omega (arith, q, z)) (λ z. omega (arith, q, z)) (kept m l)) in
          let filled : counts.filled ≡ 0 = omega (arith, c.each.filled, none 1 (lit≤ tt) (lit≤ tt)) in
          let defaulted : counts.defaulted ≡ 0 = omega (arith, c.each.defaulted, none 2 (lit≤ tt) (lit≤ tt)) in
          (omega (arith, c.sum, filled, defaulted), filled, defaulted)
