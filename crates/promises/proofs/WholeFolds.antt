-- Whole shifts and code 3. In every mode but Nearest a kept voxel settles on a voxel of its axis, which alone has a weight at orders 0 and 1; Nearest lets a coordinate stand behind its axis, and reads the last voxel there.
use Prim.Native.Nat.{ℕ, ◌^◌, ◌≤◌, ◌<◌, zero-le}
use native.Mathlib.Nat.{zero-add}
use native.Mathlib.Decide.{dec_lt}
use native.Mathlib.Omega.{arith}
use mathlib.Core.Path.{◌≡◌, refl, sym, ◌∙◌, subst}
use mathlib.Core.Logic.{◌↔◌, ◌⊎◌, inl, inr, ⊎_elim, ⊎_map, dite}
use mathlib.Core.Bool.{Bool, true, false, true≢false}
use mathlib.Core.List.{List}
use lib.IntN.{ℤ, pos, negsuc, nat_abs, ◌-ℤ◌}
use lib.Dec.{leb→le, le→leb, lit≤}
use lib.ListN.{get_or}
use lib.Ieee.{Float, nan}
use borrow.Author.Tests.{le-ltb}
use Rattle.exact.specs.Whole.{Is}
use Rattle.exact.proofs.Is.{neg_is, lt_is}
use Rattle.exact.proofs.Naturals.{num_is}
use Rattle.border.specs.declared.BorderMode.{BorderMode}
use Rattle.border.specs.declared.BorderMode.TheVariants.{Constant, Mirror, Nearest, Reflect, Wrap, Replicate}
use Rattle.border.specs.Landing.{Marked}
use Rattle.axis.specs.declared.coordinate.Axis.{Axis}
use Rattle.axis.specs.Coordinate.{shift_axis, settled, kept}
use Rattle.axis.specs.Settled.{Folds}
use Rattle.axis.specs.Folded.{folded_at}
use Rattle.axis.proofs.Coordinates.{low_pad, nearest_stands}
use Rattle.axis.proofs.Folding.{Padded}
use Rattle.axis.proofs.Settling.{settled_lands}
use Rattle.axis.proofs.Singles.{lone_unfolded}
use Rattle.refusal.specs.Refusals.{number_in}
use Rattle.coverage.specs.Coverage.{kept_at, own_code}
use Rattle.request.specs.declared.Request.{Request}
use Rattle.request.specs.Sizes.{padding}
use Rattle.resample.specs.Call.{shift_call}
use Rattle.promises.specs.Entries.{shifting}
use Rattle.promises.specs.Place.{Inside, code}
use Rattle.promises.specs.Moves.{Whole}
use Rattle.promises.specs.Folds.{NotBefore, Behind, FoldedBehind}
use Rattle.promises.proofs.Places.{code_is}
use Rattle.promises.proofs.Succeeding.{succeeds}
use Rattle.promises.proofs.Slices.{slice_still, unchanged}
use Rattle.promises.proofs.Marked.{three_exactly}
use Rattle.promises.proofs.WholePoint.{whole_unfolded, whole_folded}
use Rattle.promises.proofs.WholeShift.{Shifts, unpadded_is, coordinate_is, coordinate_near, longer_or_slice, slice_stays}

-- ---- one axis
module _ {n : ℕ} {shift : Float} {s : ℤ} (g : Shifts n shift s) (i : ℕ) (l : i < n) where
  abbrev a : Axis
  a = shift_axis n shift 0

  -- every mode but Nearest
  plain : Padded a n 0
  plain = record { long = refl; stands = refl; short = omega (arith, g.most) }

  pub kept_unfolded : (mode : BorderMode) → Folds mode → kept_at mode a i ≡ true → (order : ℕ) → order ≤ 1 → folded_at order mode a i ≡ false
  unfolding kept_at
  kept_unfolded mode folds k order low = ⊎_elim (λ two. long two) (λ h. lone_unfolded mode h.1 order) (longer_or_slice g i l)
    where
      long : 2 ≤ n → folded_at order mode a i ≡ false
      long two =
          let lands = settled_lands mode false 0 folds plain two i (pos i -ℤ s) (unpadded_is g i l 0) (omega (arith, coordinate_near g i l)) in
          let stays : Marked mode n (pos i -ℤ s) → ⊥ = λ m. true≢false (sym k ∙ lt_is (neg_is (num_is 1 (lit≤ tt))) (lands.marked m)) in
          let v = lands.follows stays in
          whole_unfolded mode a i refl (omega (arith, g.most)) (subst (λ (x : ℕ). Is (settled mode a i) (pos x)) (zero-add v.0) v.2) order low (omega (arith, v.1.voxel))

  -- Nearest
  nearest_is : Is (settled Nearest a i) (pos i -ℤ s)
  nearest_is = subst (λ (y : Float). Is y (pos i -ℤ s)) (sym (nearest_stands a i)) (coordinate_is g i l)

  pub nearest_kept : (kept_at Nearest a i ≡ true) ↔ NotBefore (pos i -ℤ s)
  unfolding kept_at
  nearest_kept = go (pos i -ℤ s) nearest_is
    where
      go : (z : ℤ) → Is (settled Nearest a i) z → (kept (settled Nearest a i) ≡ true) ↔ NotBefore z
      go (pos x) h = (λ _. le→leb 0 x zero-le, λ _. lt_is (neg_is (num_is 1 (lit≤ tt))) h)
      go (negsuc c) h = (λ e. absurd (true≢false (sym e ∙ lt_is (neg_is (num_is 1 (lit≤ tt))) h ∙ le-ltb c 0 zero-le)), λ b. absurd b)

  pub nearest_folded : NotBefore (pos i -ℤ s) → (folded_at 1 Nearest a i ≡ true) ↔ Behind n (pos i -ℤ s)
  nearest_folded = ⊎_elim (λ two. go two (pos i -ℤ s) nearest_is (coordinate_near g i l)) (λ h b. (λ e. absurd (true≢false (sym e ∙ lone_unfolded Nearest h.1 1)), λ t. absurd (slice_before h.0 t))) (longer_or_slice g i l)
    where
      slice_before : n ≡ 1 → Behind n (pos i -ℤ s) → ⊥
      slice_before one t = subst (λ (k : ℕ). Behind k (pos 0)) one (subst (λ (z : ℤ). Behind n z) (slice_stays g i l one) t)

      go : 2 ≤ n → (z : ℤ) → Is (settled Nearest a i) z → nat_abs z ≤ 2 ^ 21 → NotBefore z → (folded_at 1 Nearest a i ≡ true) ↔ Behind n z
      go two (negsuc c) h near b = absurd b
      go two (pos x) h near b = (
        λ e. dite (dec_lt x n) (λ lies. absurd (true≢false (sym e ∙ whole_unfolded Nearest a i refl (omega (arith, g.most)) h 1 (lit≤ tt) (omega arith)))) (λ out. le→leb n x (omega arith)),
        λ t. whole_folded Nearest a i refl (omega (arith, g.most)) h (omega (arith, two)) (omega (arith, leb→le n x t)) (omega arith),
      )

-- ---- three axes
apart : (mode : BorderMode) → (mode ≡ Nearest) ⊎ Folds mode
apart (Constant fill) = inr tt
apart Mirror = inr tt
apart Nearest = inl refl
apart Reflect = inr tt
apart Wrap = inr tt
apart Replicate = inr tt

module _ (r : Request) (input output : List Float) (coverage : List ℕ) (work : List Float) (s : ℕ → ℤ) (done : number_in (shift_call r input output coverage work).answer ≡ 0) (one : r.order ≡ 1) (whole : Whole r s) where
  abbrev padded : ℕ → ℕ → Axis
  padded p c = shift_axis (get_or r.dims c 0) (get_or r.factors c nan) p

  abbrev axis : ℕ → Axis
  axis c = padded (padding r c) c

  unpadded : (c : ℕ) → padding r c ≡ 0
  unpadded c = low_pad r.mode r.prefilter r.order (get_or r.dims c 0) (omega (arith, one))

  shifts : (c : ℕ) → c < 3 → Shifts (get_or r.dims c 0) (get_or r.factors c nan) (s c)
  shifts c l =
      let d = (succeeds r input output coverage work shifting done).passes.admitted.lengths c l in
      record { least = d.0; still = slice_still r (unchanged shifting r input output coverage work done) c l (whole c l).0; most = d.1; is = (whole c l).0; small = (whole c l).1 }

  -- what holds without a pad at order 1
  plainly : (c : ℕ) (P : ℕ → ℕ → Type 0) → P 1 0 → P r.order (padding r c)
  plainly c P h = subst (λ (o : ℕ). P o (padding r c)) (sym one) (subst (P 1) (sym (unpadded c)) h)

  abbrev keeps : ℕ → ℕ → Bool
  keeps c i = kept_at r.mode (axis c) i

  abbrev folds : ℕ → ℕ → Bool
  folds c i = folded_at r.order r.mode (axis c) i

  module _ (c : ℕ) (l : c < 3) (i : ℕ) (h : i < get_or r.dims c 0) where
    other_never : Folds r.mode → keeps c i ≡ true → folds c i ≡ true → ⊥
    other_never n k f = true≢false (sym f ∙ plainly c (λ o p. kept_at r.mode (padded p c) i ≡ true → folded_at o r.mode (padded p c) i ≡ false) (λ q. kept_unfolded (shifts c l) i h r.mode n q 1 (lit≤ tt)) k)

    near_kept : r.mode ≡ Nearest → (keeps c i ≡ true) ↔ NotBefore (pos i -ℤ s c)
    near_kept e = subst (λ (m : BorderMode). (kept_at m (axis c) i ≡ true) ↔ NotBefore (pos i -ℤ s c)) (sym e) (plainly c (λ o p. (kept_at Nearest (padded p c) i ≡ true) ↔ NotBefore (pos i -ℤ s c)) (nearest_kept (shifts c l) i h))

    near_folded : r.mode ≡ Nearest → NotBefore (pos i -ℤ s c) → (folds c i ≡ true) ↔ Behind (get_or r.dims c 0) (pos i -ℤ s c)
    near_folded e b = subst (λ (m : BorderMode). (folded_at r.order m (axis c) i ≡ true) ↔ Behind (get_or r.dims c 0) (pos i -ℤ s c)) (sym e) (plainly c (λ o p. (folded_at o Nearest (padded p c) i ≡ true) ↔ Behind (get_or r.dims c 0) (pos i -ℤ s c)) (nearest_folded (shifts c l) i h b))

  pub whole_shift_folds : (i j k : ℕ) → Inside r.dims i j k → (code r.dims (shift_call r input output coverage work).coverage i j k ≡ 3) ↔ FoldedBehind r s i j k
  unfolding own_code
  whole_shift_folds i j k h =
      let is = code_is shifting r input output coverage work (succeeds r input output coverage work shifting done) i j k (record { x = h.x; y = h.y; z = h.z }) in
      let three = three_exactly r.mode (keeps 0 i) (keeps 1 j) (keeps 2 k) (folds 0 i) (folds 1 j) (folds 2 k) in
      let kx = near_kept 0 (lit≤ tt) i h.x in
      let ky = near_kept 1 (lit≤ tt) j h.y in
      let kz = near_kept 2 (lit≤ tt) k h.z in
      let fx = near_folded 0 (lit≤ tt) i h.x in
      let fy = near_folded 1 (lit≤ tt) j h.y in
      let fz = near_folded 2 (lit≤ tt) k h.z in (
        λ c.
            let q = three.0 (sym is ∙ c) in
            elim (apart r.mode) [
              | inl n ↦
                  let b : NotBefore (pos i -ℤ s 0) × NotBefore (pos j -ℤ s 1) × NotBefore (pos k -ℤ s 2) = ((kx n).0 q.0.0, (ky n).0 q.0.1, (kz n).0 q.0.2) in
                  record { nearest = n; kept = b; behind = ⊎_map (fx n b.0).0 (⊎_map (fy n b.1).0 (fz n b.2).0) q.1 }
              | inr n ↦ absurd (⊎_elim (other_never 0 (lit≤ tt) i h.x n q.0.0) (⊎_elim (other_never 1 (lit≤ tt) j h.y n q.0.1) (other_never 2 (lit≤ tt) k h.z n q.0.2)) q.1)
            ],
        λ f.
            let n = f.nearest in
            let b = f.kept in
            is ∙ three.1 (((kx n).1 b.0, (ky n).1 b.1, (kz n).1 b.2), ⊎_map (fx n b.0).1 (⊎_map (fy n b.1).1 (fz n b.2).1) f.behind),
      )
