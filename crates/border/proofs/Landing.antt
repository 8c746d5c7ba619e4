-- At every whole coordinate the fold lands as `Lands` says: on a voxel of the manual's, but for the cases named there.
use mathlib.Core.Path.{◌≡◌, refl, sym, ap, ◌∙◌, subst}
use mathlib.Core.Logic.{◌⊎◌, inl, inr, dite}
use Prim.Native.Nat.{ℕ, zero, suc, ◌+◌, ◌-◌, ◌*◌, ◌/◌, ◌%◌, ◌^◌, ◌≤◌, ◌<◌, zero-le}
use native.Mathlib.Nat.{le_trans, le_of_lt, zero-lt-suc, lt_irrefl, not-le_of_lt, not-suc-le-zero, mul-pos, mod-lt, div-le_self, sub-zero, zero-add, mul-zero, mul-one, mul-le-mul_left}
use native.Mathlib.Numerals.{add-one}
use native.Mathlib.Decide.{dec_lt}
use native.Mathlib.Omega.{arith}
use mathlib.Core.Bool.{Bool, true, false, cond}
use lib.IntN.{ℤ, pos, negsuc, neg_ℤ, nat_abs, pos-ne-negsuc}
use lib.Signed.{◌≤ℤ◌, ◌<ℤ◌}
use lib.Dec.{ltb, ltb→lt, leb→le, le→leb, lit≤}
use lib.Ieee.{Float, neg, lt, le}
use borrow.Author.Tests.{le-leb, lt-leb, le-ltb, lt-ltb}
use Rattle.exact.specs.Rounded.{◌⊕◌, ◌⊖◌, ◌⊗◌, ◌⊘◌, num}
use Rattle.exact.specs.Whole.{Is}
use Rattle.exact.specs.Floor.{floor_f}
use Rattle.exact.proofs.Is.{neg_is, lt_is, le_is}
use Rattle.exact.proofs.Naturals.{nat_abs-neg, num_is, plus, times, minus, minus_more, neg_plus, negated, not_below, lt_negatives, le_negatives}
use Rattle.border.specs.declared.BorderMode.{BorderMode}
use Rattle.border.specs.declared.BorderMode.TheVariants.{Constant, Mirror, Nearest, Reflect, Wrap, Replicate}
use Rattle.border.specs.Fold.{under, over, mirror_period, reflect_period, reflect_under, fold, fold_mirror, fold_reflect, fold_wrap}
use Rattle.border.specs.Manual.{Rule}
use Rattle.border.specs.Landing.{FarEven, OnVoxel, Lands}
use Rattle.border.proofs.Arms as arms
use Rattle.border.proofs.Periods.{up_own, up_image, down_own, down_image, parts, next_multiple, whole_remainder, multiple}
use Rattle.border.proofs.Rests.{over_is, quotient_is, under_is}

pub sides : (a b : ℕ) → (a < b) ⊎ (b ≤ a)
sides a b = dite (dec_lt a b) (λ l. inl l) (λ n. inr (omega arith))

on_voxel : (mode : BorderMode) (L : ℕ) (n : ℤ) {x r : Float} (i : ℕ) → i < L → Rule mode L n i → Is x (pos i) → x ≡ r → OnVoxel mode L n r
on_voxel mode L n i v u h e = subst (λ (y : Float). OnVoxel mode L n y) e (record { i = i; stands = record { voxel = v; rule = u }; is = h })

module _ (idx len : Float) (L : ℕ) (least : 2 ≤ L) (most : L ≤ 4120) (is : Is len (pos L)) where
  -- ---- the tests on the coordinate
  at_length : {a : ℕ} → Is idx (pos a) → L ≤ a → le len idx ≡ true
  at_length {a} h l = le_is is h ∙ le-leb L a l

  last_voxel : Is (len ⊖ num 1) (pos (L - 1))
  last_voxel = minus is (num_is 1 (lit≤ tt)) (omega arith) (omega arith)

  -- a coordinate on a voxel stays there
  pub stays : (mode : BorderMode) {a : ℕ} → Is idx (pos a) → a < L → Is (fold mode idx len) (pos a)
  stays mode {a} h l = subst (λ (r : Float). Is r (pos a)) (arms.inside mode idx len (not_below h) (not-past mode)) h
    where
      before_length : le len idx ≡ false
      before_length = le_is is h ∙ lt-leb L a l

      not-past : (mode : BorderMode) → arms.past mode idx len ≡ false
      not-past (Constant fill) = before_length
      not-past Mirror = before_length
      not-past Nearest = before_length
      not-past Reflect = before_length
      not-past Wrap = before_length
      not-past Replicate = lt_is last_voxel h ∙ le-ltb (L - 1) a (omega arith)

  -- ---- Mirror
  mirror-period : Is (mirror_period len) (pos (2 * L - 2))
  mirror-period = minus (times (num_is 2 (lit≤ tt)) is (omega arith)) (num_is 2 (lit≤ tt)) (omega arith) (omega arith)

  mirror_beyond : (a : ℕ) → Is idx (pos a) → L ≤ a → a ≤ 2 ^ 32 → OnVoxel Mirror L (pos a) (fold_mirror idx len)
  mirror_beyond a h l m =
      let p = 2 * L - 2 in
      let r = a % p in
      let rest : Is (over (mirror_period len) idx) (pos r) = over_is a p m (omega arith) (omega arith) mirror-period h in
      let small : r < p = mod-lt a (omega arith) in
      let by = arms.mirror_over idx len (over (mirror_period len) idx) refl (not_below h) (at_length h l) in
      elim (sides r L) [
        | inl k ↦ on_voxel Mirror L (pos a) r k (inl (up_own p a r (a / p) (parts a p))) rest (by false (le_is is rest ∙ lt-leb L r k))
        | inr k ↦ on_voxel Mirror L (pos a) (p - r) (omega arith) (inr (up_image p a (p - r) (suc (a / p)) (next_multiple a r p (a / p) (parts a p) (le_of_lt small))))
            (minus mirror-period rest (le_of_lt small) (omega arith)) (by true (le_is is rest ∙ le-leb L r k))
      ]

  mirror_below : (a : ℕ) → Is idx (neg_ℤ (pos a)) → lt idx (num 0) ≡ true → a ≤ 2 ^ 32 → OnVoxel Mirror L (neg_ℤ (pos a)) (fold_mirror idx len)
  mirror_below a h t m =
      let p = 2 * L - 2 in
      let r = a % p in
      let rest : Is (under (mirror_period len) idx) (neg_ℤ (pos r)) = under_is a p m (omega arith) (omega arith) mirror-period h in
      let small : r < p = mod-lt a (omega arith) in
      let test = le_negatives r (L - 1) rest (minus_more (num_is 1 (lit≤ tt)) is (omega arith) (omega arith)) in
      let by = arms.mirror_under idx len (under (mirror_period len) idx) refl t in
      elim (sides r (L - 1)) [
        | inl k ↦ on_voxel Mirror L (neg_ℤ (pos a)) r (omega arith) (inr (down_image p a r (a / p) (parts a p))) (negated rest) (by false (test ∙ lt-leb (L - 1) r k))
        | inr k ↦ on_voxel Mirror L (neg_ℤ (pos a)) (p - r) (omega arith) (inl (down_own p a (p - r) (suc (a / p)) (next_multiple a r p (a / p) (parts a p) (le_of_lt small))))
            (neg_plus rest mirror-period (le_of_lt small) (omega arith)) (by true (test ∙ le-leb (L - 1) r k))
      ]

  -- ---- Reflect
  reflect-period : Is (reflect_period len) (pos (2 * L))
  reflect-period = times (num_is 2 (lit≤ tt)) is (omega arith)

  reflect_beyond : (a : ℕ) → Is idx (pos a) → L ≤ a → a ≤ 2 ^ 32 → OnVoxel Reflect L (pos a) (fold_reflect idx len)
  reflect_beyond a h l m =
      let p = 2 * L in
      let r = a % p in
      let rest : Is (over (reflect_period len) idx) (pos r) = over_is a p m (omega arith) (omega arith) reflect-period h in
      let small : r < p = mod-lt a (omega arith) in
      let by = arms.reflect_over idx len (over (reflect_period len) idx) refl (not_below h) (at_length h l) in
      elim (sides r L) [
        | inl k ↦ on_voxel Reflect L (pos a) r k (inl (up_own p a r (a / p) (parts a p))) rest (by false (le_is is rest ∙ lt-leb L r k))
        | inr k ↦
            let e : suc (p - r - 1) ≡ p - r = omega arith in
            on_voxel Reflect L (pos a) (p - r - 1) (omega arith) (inr (up_image p a (suc (p - r - 1)) (suc (a / p)) (ap (λ (j : ℕ). a + j) e ∙ next_multiple a r p (a / p) (parts a p) (le_of_lt small))))
            (minus (minus reflect-period rest (le_of_lt small) (omega arith)) (num_is 1 (lit≤ tt)) (omega arith) (omega arith)) (by true (le_is is rest ∙ le-leb L r k))
      ]

  -- after the first step the coordinate is -u: where it was -a, from -2L up, u is a, and below that the remainder of a
  record Shortened (a : ℕ) : Type 0 where
    u : ℕ
    q : ℕ
    step : Is (reflect_under idx len) (neg_ℤ (pos u))
    upto : u ≤ 2 * L
    split : a ≡ u + 2 * L * q
    zero_far : u ≡ 0 → 2 ≤ q
    far_zero : (k : ℕ) → 2 ≤ k → a ≡ 2 * L * k → u ≡ 0

  shortened : (a : ℕ) → 0 < a → Is idx (neg_ℤ (pos a)) → a ≤ 2 ^ 32 → Shortened a
  shortened a A h m =
      let p = 2 * L in
      let test : lt idx (neg (reflect_period len)) ≡ ltb p a = lt_negatives a p h (neg_is reflect-period) in
      elim (sides p a) [
        | inl k ↦ record {
          u = a % p;
          q = a / p;
          step = subst (λ (x : Float). Is x (neg_ℤ (pos (a % p)))) (arms.reflect_far idx len (under (reflect_period len) idx) refl (test ∙ lt-ltb p a k)) (under_is a p m (omega arith) (omega arith) reflect-period h);
          upto = le_of_lt (mod-lt a (omega arith));
          split = parts a p;
          zero_far = λ z. twice p a (a / p) k (parts a p ∙ ap (λ (j : ℕ). j + p * (a / p)) z);
          far_zero = λ j f e. whole_remainder p a j e;
        }
        | inr k ↦ record {
          u = a;
          q = 0;
          step = subst (λ (x : Float). Is x (neg_ℤ (pos a))) (arms.reflect_near idx len idx (test ∙ le-ltb p a k)) h;
          upto = k;
          split = omega (arith, mul-zero p);
          zero_far = λ z. omega arith;
          far_zero = λ j f e. omega (arith, mul-le-mul_left p f);
        }
      ]
    where
      twice : (p a q : ℕ) → p < a → a ≡ 0 + p * q → 2 ≤ q
      twice p a zero l e = omega (arith, mul-zero p)
      twice p a (suc zero) l e = omega (arith, mul-one p)
      twice p a (suc (suc q)) l e = omega arith

  reflect_below : (a : ℕ) → 0 < a → Is idx (neg_ℤ (pos a)) → lt idx (num 0) ≡ true → a ≤ 2 ^ 32 → Lands Reflect L (neg_ℤ (pos a)) (fold_reflect idx len)
  reflect_below a A h t m =
      let s = shortened a A h m in
      go s.u s.q s.step s.upto s.split s.zero_far s.far_zero
    where
      by : (u : ℕ) → Is (reflect_under idx len) (neg_ℤ (pos u)) → (b : Bool) → ltb L u ≡ b → cond b (reflect_under idx len ⊕ reflect_period len) (neg (reflect_under idx len) ⊖ num 1) ≡ fold_reflect idx len
      by u k b e = arms.reflect-under idx len (reflect_under idx len) refl t b (lt_negatives u L k (neg_is is) ∙ e)

      go : (u q : ℕ) → Is (reflect_under idx len) (neg_ℤ (pos u)) → u ≤ 2 * L → a ≡ u + 2 * L * q → (u ≡ 0 → 2 ≤ q) → ((k : ℕ) → 2 ≤ k → a ≡ 2 * L * k → u ≡ 0) → Lands Reflect L (neg_ℤ (pos a)) (fold_reflect idx len)
      go zero q k top e zf fz = record {
        marked = λ _. subst (λ (x : Float). Is x (negsuc 0)) (by 0 k false (le-ltb L 0 zero-le)) (minus_more (negated {a = 0} k) (num_is 1 (lit≤ tt)) zero-le (lit≤ tt));
        follows = λ no. absurd (no (record { k = q; far = zf refl; even = ap (λ (j : ℕ). neg_ℤ (pos j)) (e ∙ zero-add (2 * L * q)) }));
        chosen = tt;
      }
      go (suc i) q k top e zf fz = record {
        marked = λ f. absurd (some i (fz f.k f.far (sym (nat_abs-neg a) ∙ ap nat_abs f.even ∙ nat_abs-neg (2 * L * f.k))));
        follows = λ _. elim (sides L (suc i)) [
          | inl l ↦ on_voxel Reflect L (neg_ℤ (pos a)) (2 * L - suc i) (omega arith) (inl (down_own (2 * L) a (2 * L - suc i) (suc q) (next_multiple a (suc i) (2 * L) q e top)))
              (neg_plus k reflect-period top (omega arith)) (by (suc i) k true (lt-ltb L (suc i) l))
          | inr l ↦ on_voxel Reflect L (neg_ℤ (pos a)) i l (inr (down_image (2 * L) a (suc i) q e))
              (subst (λ (j : ℕ). Is (neg (reflect_under idx len) ⊖ num 1) (pos j)) (less i) (minus (negated {a = suc i} k) (num_is 1 (lit≤ tt)) (omega arith) (omega arith))) (by (suc i) k false (le-ltb L (suc i) l))
        ];
        chosen = tt;
      }
        where
          some : (i : ℕ) → suc i ≡ 0 → ⊥
          some i z = omega arith

          less : (i : ℕ) → suc i - 1 ≡ i
          less i = omega arith

  -- ---- Wrap
  -- below 0 the fold gives the next multiple less a
  wrap_below : (a : ℕ) → Is idx (neg_ℤ (pos a)) → lt idx (num 0) ≡ true → a ≤ 2 ^ 32 → Is (fold_wrap idx len) (pos (L - 1 - a % (L - 1)))
  wrap_below a h t m =
      let p = L - 1 in
      let q = a / p in
      let small : a % p < p = mod-lt a (omega arith) in
      let up : a + (p - a % p) ≡ p * suc q = next_multiple a (a % p) p q (parts a p) (le_of_lt small) in
      let one_more : Is (floor_f (neg idx ⊘ (len ⊖ num 1)) ⊕ num 1) (pos (suc q)) = subst (λ (j : ℕ). Is (floor_f (neg idx ⊘ (len ⊖ num 1)) ⊕ num 1) (pos j)) (add-one q) (plus (quotient_is a p m (omega arith) (omega arith) last_voxel h) (num_is 1 (lit≤ tt)) (omega (arith, div-le_self a p))) in
      let e : p * suc q - a ≡ p - a % p = omega arith in
      subst (λ (x : Float). Is x (pos (p - a % p))) (arms.wrap_below idx len t)
      (subst (λ (j : ℕ). Is (idx ⊕ (len ⊖ num 1) ⊗ (floor_f (neg idx ⊘ (len ⊖ num 1)) ⊕ num 1)) (pos j)) e (neg_plus h (times last_voxel one_more (omega arith)) (omega arith) (omega arith)))

  wrap_beyond : (a : ℕ) → Is idx (pos a) → L ≤ a → a ≤ 2 ^ 32 → Is (fold_wrap idx len) (pos (a % (L - 1)))
  wrap_beyond a h l m = subst (λ (x : Float). Is x (pos (a % (L - 1)))) (arms.wrap_beyond idx len (not_below h) (at_length h l)) (over_is a (L - 1) m (omega arith) (omega arith) last_voxel h)

-- ---- coordinates that the cases of `Marked` and of `Overlap` shut out
not_below_zero : (a : ℕ) → pos a <ℤ pos 0 → ⊥
not_below_zero a h = not-suc-le-zero (ltb→lt a 0 h.lt)

not_beyond : (a L : ℕ) → a < L → pos L ≤ℤ pos a → ⊥
not_beyond a L l h = not-le_of_lt l (leb→le L a h.le)

pub not_far : (a L : ℕ) → 2 ≤ L → FarEven L (pos a) → ⊥
not_far a L l f = go (2 * L * f.k) f.even (mul-pos (omega arith) (le_trans (lit≤ tt) f.far))
  where
    go : (m : ℕ) → pos a ≡ neg_ℤ (pos m) → 0 < m → ⊥
    go zero e p = lt_irrefl 0 p
    go (suc m) e p = pos-ne-negsuc a m e

-- ---- the three parts of the axis
within : (mode : BorderMode) {r : Float} (a L : ℕ) → Is r (pos a) → 2 ≤ L → a < L → Lands mode L (pos a) r
within mode {r} a L h l i = go mode
  where
    at_once : (p : ℕ) → a ≡ a + p * 0
    at_once p = omega (arith, mul-zero p)

    go : (mode : BorderMode) → Lands mode L (pos a) r
    go (Constant fill) = record { marked = λ o. absurd (elim o [ inl b ↦ not_below_zero a b | inr b ↦ not_beyond a L i b ]); follows = λ _. on_voxel (Constant fill) L (pos a) a i refl h refl; chosen = tt }
    go Mirror = record { marked = λ z. absurd z; follows = λ _. on_voxel Mirror L (pos a) a i (inl (up_own (2 * L - 2) a a 0 (at_once (2 * L - 2)))) h refl; chosen = tt }
    go Nearest = record { marked = λ z. absurd z; follows = λ _. on_voxel Nearest L (pos a) a i (inl refl) h refl; chosen = tt }
    go Reflect = record { marked = λ f. absurd (not_far a L l f); follows = λ _. on_voxel Reflect L (pos a) a i (inl (up_own (2 * L) a a 0 (at_once (2 * L)))) h refl; chosen = tt }
    go Wrap = record {
      marked = λ z. absurd z;
      follows = λ _. on_voxel Wrap L (pos a) a i (up_own (L - 1) a a 0 (at_once (L - 1))) h refl;
      chosen = λ _. record { below = λ b. absurd (not_below_zero a b); beyond = λ b. absurd (not_beyond a L i b); inside = λ _ _. h };
    }
    go Replicate = record { marked = λ z. absurd z; follows = λ _. on_voxel Replicate L (pos a) a i (inl refl) h refl; chosen = tt }

beyond : (mode : BorderMode) {idx len : Float} (a L : ℕ) → Is idx (pos a) → Is len (pos L) → 2 ≤ L → L ≤ 4120 → a ≤ 2 ^ 32 → L ≤ a → Lands mode L (pos a) (fold mode idx len)
unfolding fold
beyond (Constant fill) {idx} {len} a L h k l m d o = record {
  marked = λ _. subst (λ (x : Float). Is x (negsuc 0)) (arms.constant_beyond idx len (not_below h) (at_length idx len L l m k h o)) (neg_is (num_is 1 (lit≤ tt)));
  follows = λ no. absurd (no (inr (record { le = le→leb L a o })));
  chosen = tt;
}
beyond Mirror {idx} {len} a L h k l m d o = record { marked = λ z. absurd z; follows = λ _. mirror_beyond idx len L l m k a h o d; chosen = tt }
beyond Nearest {idx} {len} a L h k l m d o = record {
  marked = λ z. absurd z;
  follows = λ _. on_voxel Nearest L (pos a) (L - 1) (omega arith) (inr (inr (record { le = le→leb L a o }, refl))) (last_voxel idx len L l m k) (arms.nearest_beyond idx len (not_below h) (at_length idx len L l m k h o));
  chosen = tt;
}
beyond Reflect {idx} {len} a L h k l m d o = record { marked = λ f. absurd (not_far a L l f); follows = λ _. reflect_beyond idx len L l m k a h o d; chosen = tt }
beyond Wrap {idx} {len} a L h k l m d o =
    let p = L - 1 in
    let r = wrap_beyond idx len L l m k a h o d in
    let small : a % p < p = mod-lt a (omega arith) in
    record {
      marked = λ z. absurd z;
      follows = λ _. on_voxel Wrap L (pos a) (a % p) (omega arith) (up_own p a (a % p) (a / p) (parts a p)) r refl;
      chosen = λ z. record {
        below = λ b. absurd (not_below_zero a b);
        beyond = λ _. subst (λ (j : ℕ). Is (fold_wrap idx len) (pos j)) (whole_remainder p a (nat_abs z.times) (multiple z)) r;
        inside = λ _ b. absurd (not-le_of_lt (ltb→lt a L b.lt) o);
      };
    }
beyond Replicate {idx} {len} a L h k l m d o =
    let last = last_voxel idx len L l m k in
    record {
      marked = λ z. absurd z;
      follows = λ _. on_voxel Replicate L (pos a) (L - 1) (omega arith) (inr (inr (record { le = le→leb L a o }, refl))) last (arms.replicate-beyond idx len (not_below h) (lt_is last h ∙ lt-ltb (L - 1) a (omega arith)));
      chosen = tt;
    }

below : (mode : BorderMode) {idx len : Float} (c L : ℕ) → Is idx (negsuc c) → Is len (pos L) → 2 ≤ L → L ≤ 4120 → suc c ≤ 2 ^ 32 → Lands mode L (negsuc c) (fold mode idx len)
unfolding fold
below mode {idx} {len} c L h k l m d = go mode
  where
    t : lt idx (num 0) ≡ true
    t = lt_is h (num_is 0 (lit≤ tt))

    go : (mode : BorderMode) → Lands mode L (negsuc c) (fold mode idx len)
    go (Constant fill) = record { marked = λ _. subst (λ (x : Float). Is x (negsuc 0)) (arms.constant_below idx len t) (neg_is (num_is 1 (lit≤ tt))); follows = λ no. absurd (no (inl (record { lt = tt }))); chosen = tt }
    go Mirror = record { marked = λ z. absurd z; follows = λ _. mirror_below idx len L l m k (suc c) h t d; chosen = tt }
    go Nearest = record {
      marked = λ z. absurd z;
      follows = λ _. on_voxel Nearest L (negsuc c) 0 (omega arith) (inr (inl (record { lt = tt }, refl))) (num_is 0 (lit≤ tt)) (arms.nearest_below idx len t);
      chosen = tt;
    }
    go Reflect = reflect_below idx len L l m k (suc c) (zero-lt-suc c) h t d
    go Wrap =
        let p = L - 1 in
        let a = suc c in
        let r = wrap_below idx len L l m k a h t d in
        let small : a % p < p = mod-lt a (omega arith) in
        record {
          marked = λ z. absurd z;
          follows = λ _. on_voxel Wrap L (negsuc c) (p - a % p) (omega arith) (down_own p a (p - a % p) (suc (a / p)) (next_multiple a (a % p) p (a / p) (parts a p) (le_of_lt small))) r refl;
          chosen = λ z. record {
            below = λ _. subst (λ (j : ℕ). Is (fold_wrap idx len) (pos j)) (ap (λ (j : ℕ). p - j) (whole_remainder p a (nat_abs z.times) (multiple z)) ∙ sub-zero p) r;
            beyond = λ b. absurd b.le;
            inside = λ b _. absurd b.le;
          };
        }
    go Replicate = record {
      marked = λ z. absurd z;
      follows = λ _. on_voxel Replicate L (negsuc c) 0 (omega arith) (inr (inl (record { lt = tt }, refl))) (num_is 0 (lit≤ tt)) (arms.replicate_below idx len t);
      chosen = tt;
    }

-- ---- the theorem
pub fold_lands : (mode : BorderMode) {idx len : Float} (n : ℤ) (L : ℕ) → Is idx n → Is len (pos L) → 2 ≤ L → L ≤ 4120 → nat_abs n ≤ 2 ^ 32 → Lands mode L n (fold mode idx len)
fold_lands mode {idx} {len} (pos a) L h k l m d = elim (sides a L) [ inl i ↦ within mode a L (stays idx len L l m k mode h i) l i | inr o ↦ beyond mode a L h k l m d o ]
fold_lands mode (negsuc c) L h k l m d = below mode c L h k l m d
