-- Reflect gives -1 or less at -2kL with k at least 2, and from -2^-54 up to 0, and at no other f64 coordinate of size up to 2^26.
use mathlib.Core.Path.{◌≡◌, refl, sym, ap, ◌∙◌, subst}
use mathlib.Core.Logic.{◌↔◌, inl, inr, dite}
use Prim.Native.Nat.{ℕ, zero, suc, ◌+◌, ◌-◌, ◌*◌, ◌/◌, ◌^◌, ◌≤◌, ◌<◌, zero-le}
use native.Mathlib.Nat.{mul-one, one-mul, zero-mul, mul_assoc, mul_comm, suc-mul, le_refl, le_trans, le_of_eq, lt_of_le_of_lt, lt_of_lt_of_le, mul-le-mul_right, lt_of_mul-lt-mul_right, le_of_mul-le-mul_right, div-mul-le_self, div-lt_iff_lt-mul, mul-pos, zero-lt-suc}
use native.Mathlib.Decide.{dec_lt}
use native.Mathlib.Omega.{arith}
use mathlib.Core.Bool.{Bool, true, false, ◌&&◌, cond, true≢false}
use lib.IntN.{pos, negsuc, neg_ℤ, nat_abs}
use lib.Dec.{T, ltb, leb, lit≤}
use lib.Pow.{pow_pos}
use lib.Ieee.{Float, fin, binary64, neg, lt, le, sum, fits}
use lib.Ieee.Exact.{HasValue}
use lib.Ieee.Positive.{first_pos}
use borrow.Author.Tests.{le-leb, lt-leb, le-ltb, lt-ltb, leb-true, ltb-true, ne_eqb}
use Rattle.exact.specs.Rounded.{◌⊕◌, ◌⊖◌, ◌⊗◌, ◌⊘◌, num}
use Rattle.exact.specs.Whole.{Is}
use Rattle.exact.specs.Within.{Within}
use Rattle.exact.proofs.Naturals.{num_is, times}
use Rattle.exact.proofs.Value.{le_val}
use Rattle.exact.proofs.Is.{neg_is, le_is}
use Rattle.exact.proofs.Bounds.{HasSign}
use Rattle.exact.proofs.Unique.{pow-le}
use Rattle.exact.proofs.Over.{Over, num-over, is_over, neg-over, sum_over, difference_over, lt-over, le-over, leb_is, leb_turned, exact_below, exact_above, sum_sign, multiple_over, Dyadic, dyadic_of, over_size, over_sign, rescaled}
use Rattle.exact.proofs.Middles.{at_most_value, quotient_stays_below, floor_over}
use Rattle.exact.proofs.MinusOne.{not_negative, nearer_zero, less_one}
use Rattle.border.specs.declared.BorderMode.TheVariants.{Reflect}
use Rattle.border.specs.Fold.{reflect_period, reflect_under, fold, fold_reflect}
use Rattle.border.specs.Outside.{FarMultiple, JustBelow, Lost}
use Rattle.border.proofs.Arms as arms
use Rattle.border.proofs.Arms.{under_by, over_by}
use Rattle.border.proofs.Landing.{fold_lands}

abbrev minus1 : Float
minus1 = neg (num 1)

stays : (idx len : Float) → lt idx (num 0) ≡ false → le len idx ≡ false → idx ≡ fold_reflect idx len
unfolding fold
stays = arms.inside Reflect

-- one part of 2^53 and fewer is more than 2^-54
not_tiny : (d G : ℕ) → 0 < d → G < 2 ^ 53 → G < d * 2 ^ 54
not_tiny d G D S = omega arith

module _ (L : ℕ) (least : 2 ≤ L) (most : L ≤ 4120) (g : ℕ) where
  some : 0 < 2 ^ g
  some = pow_pos g

  period : Is (reflect_period (num L)) (pos (2 * L))
  period = times (num_is 2 (lit≤ tt)) (num_is L (omega arith)) (omega arith)

  len_over : Over (2 ^ g) (num L) false (L * 2 ^ g)
  len_over = num-over some L (omega arith)

  period_over : Over (2 ^ g) (reflect_period (num L)) false (2 * L * 2 ^ g)
  period_over = is_over some period (omega arith)

  twice : 2 * 2 ^ g ≤ L * 2 ^ g
  twice = mul-le-mul_right (2 ^ g) least

  -- ---- below 0: the last step, with the coordinate at -r / 2^g after the first
  stepped : {t : Float} {r : ℕ} → Over (2 ^ g) t true r → r ≤ 2 * L * 2 ^ g → le (cond (lt t (neg (num L))) (t ⊕ reflect_period (num L)) (neg t ⊖ num 1)) minus1 ≡ leb (r * 2 ^ 54) (2 ^ g)
  stepped {t} {r} h l =
      let G = 2 ^ g in
      let pick : (b : Bool) → Float = λ b. cond b (t ⊕ reflect_period (num L)) (neg t ⊖ num 1) in
      let test : lt t (neg (num L)) ≡ ltb (L * G) r = lt-over some h (neg-over len_over) in
      dite (dec_lt (L * G) r)
      (λ k. ap (λ (b : Bool). le (pick b) minus1) (test ∙ lt-ltb (L * G) r k)
      ∙ not_negative (t ⊕ reflect_period (num L)) (subst (λ (x : Float). HasSign false x) (sym (sum_over some h period_over)) (sum_sign r (2 * L * G) G l))
      ∙ sym (lt-leb (r * 2 ^ 54) G (omega (arith, twice))))
      (λ o. ap (λ (b : Bool). le (pick b) minus1) (test ∙ le-ltb (L * G) r (omega arith)) ∙ less_one g (neg-over h))

  last_step : (idx : Float) {t : Float} → t ≡ reflect_under idx (num L) → lt idx (num 0) ≡ true → cond (lt t (neg (num L))) (t ⊕ reflect_period (num L)) (neg t ⊖ num 1) ≡ fold_reflect idx (num L)
  last_step idx {t} e b = arms.reflect-under idx (num L) t e b (lt t (neg (num L))) refl

  -- ---- a coordinate ±u / 2^g, and the whole periods in it
  module _ (u : ℕ) (short : u < 2 ^ 53) (bound : u ≤ 2 ^ 26 * 2 ^ g) where
    abbrev turns : ℕ
    turns = u / (2 * L * 2 ^ g)

    taken : 2 * L * turns * 2 ^ g ≡ turns * (2 * L * 2 ^ g)
    taken = ap (λ (z : ℕ). z * 2 ^ g) (mul_comm (2 * L) turns) ∙ mul_assoc turns (2 * L) (2 ^ g)

    upto : turns * (2 * L * 2 ^ g) ≤ u
    upto = div-mul-le_self u (2 * L * 2 ^ g)

    rest : u < turns * (2 * L * 2 ^ g) + 2 * L * 2 ^ g
    rest = lt_of_lt_of_le ((div-lt_iff_lt-mul (mul-pos (omega arith) some)).0 (le_refl (suc turns))) (le_of_eq (suc-mul turns (2 * L * 2 ^ g)))

    few : 2 * L * turns ≤ 2 ^ 26
    few = le_of_mul-le-mul_right (le_trans (le_of_eq taken) (le_trans upto bound)) some

    room : suc turns * (2 * L) ≤ 2 ^ 53
    room = omega (arith, few, suc-mul turns (2 * L), mul_comm (2 * L) turns)

    whole_turns : Over (2 ^ g) (reflect_period (num L) ⊗ num turns) false (2 * L * turns * 2 ^ g)
    whole_turns = multiple_over turns some period (omega arith) (omega (arith, few))

    -- where u / 2^g is 1 at least, few digits stand after the point
    coarse : 2 * 2 ^ g ≤ u → g ≤ 1074
    coarse l = le_trans (pow-le g 53 (omega arith)) (lit≤ tt)

    module _ {idx : Float} (h : Over (2 ^ g) idx true u) (below : lt idx (num 0) ≡ true) where
      past : lt idx (neg (reflect_period (num L))) ≡ ltb (2 * L * 2 ^ g) u
      past = lt-over some h (neg-over period_over)

      -- not shortened first
      near : u ≤ 2 * L * 2 ^ g → le (fold_reflect idx (num L)) minus1 ≡ leb (u * 2 ^ 54) (2 ^ g)
      near l =
          ap (λ (x : Float). le x minus1) (sym (last_step idx (arms.reflect_near idx (num L) idx (past ∙ le-ltb (2 * L * 2 ^ g) u l)) below)) ∙ stepped h l

      -- shortened by whole periods
      module _ (l : 2 * L * 2 ^ g < u) where
        abbrev left : Float
        left = under_by (reflect_period (num L)) idx (num turns)

        left_is : left ≡ sum binary64 false (2 * L * turns * 2 ^ g) true u (2 ^ g)
        left_is = sum_over some whole_turns h

        far : cond (lt left (neg (num L))) (left ⊕ reflect_period (num L)) (neg left ⊖ num 1) ≡ fold_reflect idx (num L)
        far = last_step idx (arms.reflect_far idx (num L) left (ap (under_by (reflect_period (num L)) idx) (sym (floor_over g (neg-over h) short period (omega arith) room))) (past ∙ lt-ltb (2 * L * 2 ^ g) u l)) below

        fine : 2 * 2 ^ g ≤ u
        fine = omega (arith, twice, mul_assoc 2 L (2 ^ g))

        far_some : turns * (2 * L * 2 ^ g) < u → le (fold_reflect idx (num L)) minus1 ≡ false
        far_some k =
            let q = 2 * L * turns * 2 ^ g in
            let o : Over (2 ^ g) left true (u - q) = record { value = subst (λ (x : Float). HasValue x true (u - q) (2 ^ g)) (sym left_is) (exact_below q u g (omega (arith, taken)) (omega arith) (coarse fine)) } in
            ap (λ (x : Float). le x minus1) (sym far) ∙ stepped o (omega (arith, taken, rest)) ∙ lt-leb ((u - q) * 2 ^ 54) (2 ^ g) (not_tiny (u - q) (2 ^ g) (omega (arith, taken)) (omega (arith, fine)))

    -- ---- from 0 up
    module _ {idx : Float} (h : Over (2 ^ g) idx false u) where
      not_below : lt idx (num 0) ≡ false
      not_below = lt-over some h (num-over some 0 zero-le) ∙ le-ltb u (0 * 2 ^ g) (omega (arith, zero-mul (2 ^ g)))

      beyond : le (num L) idx ≡ leb (L * 2 ^ g) u
      beyond = le-over some len_over h ∙ leb_is (L * 2 ^ g) u

      inside : u < L * 2 ^ g → le (fold_reflect idx (num L)) minus1 ≡ false
      inside l = ap (λ (x : Float). le x minus1) (sym (stays idx (num L) not_below (beyond ∙ lt-leb (L * 2 ^ g) u l))) ∙ not_negative idx (over_sign h)

      module _ (l : L * 2 ^ g ≤ u) where
        abbrev over_left : Float
        over_left = over_by (reflect_period (num L)) idx (num turns)

        over_is : Over (2 ^ g) over_left false (u - 2 * L * turns * 2 ^ g)
        over_is =
            let q = 2 * L * turns * 2 ^ g in
            record { value = subst (λ (x : Float). HasValue x false (u - q) (2 ^ g)) (sym (difference_over some h whole_turns)) (exact_above u q g (omega (arith, taken, upto)) (omega arith) (coarse (omega (arith, twice)))) }

        outer : le (fold_reflect idx (num L)) minus1 ≡ false
        outer =
            let G = 2 ^ g in
            let q = 2 * L * turns * G in
            let r = u - q in
            let by = arms.reflect_over idx (num L) over_left (ap (over_by (reflect_period (num L)) idx) (sym (floor_over g h short period (omega arith) room))) not_below (beyond ∙ le-leb (L * G) u l) in
            let test : le (num L) over_left ≡ leb (L * G) r = le-over some len_over over_is ∙ leb_is (L * G) r in
            dite (dec_lt r (L * G))
            (λ k. ap (λ (x : Float). le x minus1) (sym (by false (test ∙ lt-leb (L * G) r k))) ∙ not_negative over_left (over_sign over_is))
            (λ o.
            let d = 2 * L * G - r in
            let back : Over G (reflect_period (num L) ⊖ over_left) false d =
            record { value = subst (λ (x : Float). HasValue x false d G) (sym (difference_over some period_over over_is)) (exact_above (2 * L * G) r g (omega (arith, taken, rest)) (omega (arith, mul_assoc 2 L G)) (coarse (omega (arith, twice)))) } in
            ap (λ (x : Float). le x minus1) (sym (by true (test ∙ le-leb (L * G) r (omega arith)))) ∙ less_one g back ∙ lt-leb (d * 2 ^ 54) G (not_tiny d G (omega (arith, taken, upto, rest)) (omega (arith, twice))))

      up_above : le (fold_reflect idx (num L)) minus1 ≡ false
      up_above = dite (dec_lt u (L * 2 ^ g)) inside (λ o. outer (omega arith))

-- ---- the theorem
module _ (L : ℕ) (least : 2 ≤ L) (most : L ≤ 4120) {idx : Float} (D : Dyadic 26 idx) where
  -- where idx is -2kL, `fold_lands` says that the fold is -1
  multiple_lost : FarMultiple L idx → le (fold_reflect idx (num L)) minus1 ≡ true
  unfolding fold
  multiple_lost f =
      let size : D.u ≡ nat_abs f.n * 2 ^ D.g = over_size D.is f.is in
      let N : nat_abs f.n ≤ 2 ^ 26 = le_of_mul-le-mul_right (le_trans (le_of_eq (sym size)) D.bound) (pow_pos D.g) in
      le_is ((fold_lands Reflect f.n L f.is (num_is L (omega arith)) least most (le_trans N (lit≤ tt))).marked f.even) (neg_is (num_is 1 (lit≤ tt)))

  -- -2^-54 ≤ idx, with idx = -u / 2^g
  tiny : {u : ℕ} (g : ℕ) → Over (2 ^ g) idx true u → le (fin true 1 (negsuc 53)) idx ≡ leb (u * 2 ^ 54) (2 ^ g)
  tiny {u} g h =
      le_val (fin true 1 (negsuc 53)) idx true true 1 (2 ^ 54) u (2 ^ g) (pow_pos 54) (pow_pos g) (refl, refl) h.value
      ∙ leb_turned (1 * 2 ^ g) (u * 2 ^ 54) ∙ ap (λ (k : ℕ). leb (u * 2 ^ 54) k) (one-mul (2 ^ g))

  -- below 0, where idx is -u / 2^g
  under : (u g : ℕ) → 0 < u → u < 2 ^ 53 → u ≤ 2 ^ 26 * 2 ^ g → Over (2 ^ g) idx true u → (le (fold_reflect idx (num L)) minus1 ≡ true) ↔ Lost L idx
  under u g U S B h = (lost, λ m. elim m [ inl f ↦ multiple_lost f | inr j ↦ just j ])
    where
      below : lt idx (num 0) ≡ true
      below = lt-over (pow_pos g) h (num-over (pow_pos g) 0 zero-le) ∙ lt-ltb 0 (u + 0 * 2 ^ g) (omega arith)

      just : JustBelow idx → le (fold_reflect idx (num L)) minus1 ≡ true
      just j =
          let t : leb (u * 2 ^ 54) (2 ^ g) ≡ true = sym (tiny g h) ∙ j.least in
          near L least most g u S B h below (omega (arith, leb-true (u * 2 ^ 54) (2 ^ g) t, twice L least most g, mul_assoc 2 L (2 ^ g))) ∙ t

      multiple : u / (2 * L * 2 ^ g) * (2 * L * 2 ^ g) ≡ u → 2 * L * 2 ^ g < u → FarMultiple L idx
      multiple e l =
          let q = u / (2 * L * 2 ^ g) in
          let s : u * 1 ≡ 2 * L * q * 2 ^ g = mul-one u ∙ sym e ∙ sym (taken L least most g u S B) in
          record {
            n = neg_ℤ (pos (2 * L * q));
            is = record { sign = true; size = 2 * L * q; value = rescaled idx true u (2 ^ g) (2 * L * q) 1 (pow_pos g) s h.value; number = refl };
            even = record {
              k = q;
              far = lt_of_mul-lt-mul_right (2 * L * 2 ^ g) (lt_of_le_of_lt (le_of_eq (one-mul (2 * L * 2 ^ g))) (lt_of_lt_of_le l (le_of_eq (sym e))));
              even = refl;
            };
          }

      lost : le (fold_reflect idx (num L)) minus1 ≡ true → Lost L idx
      lost t =
          let d = 2 * L * 2 ^ g in
          dite (dec_lt d u)
          (λ l. dite (dec_lt (u / d * d) u)
          (λ k. absurd (true≢false (sym t ∙ far_some L least most g u S B h below l k)))
          (λ o. inl (multiple (omega (arith, div-mul-le_self u d)) l)))
          (λ o. inr (record { least = tiny g h ∙ sym (near L least most g u S B h below (omega arith)) ∙ t; below = below }))

  -- from 0 up the fold gives no -1, and neither case holds
  above : lt idx (num 0) ≡ false → le (fold_reflect idx (num L)) minus1 ≡ false → (le (fold_reflect idx (num L)) minus1 ≡ true) ↔ Lost L idx
  above b n = (λ t. absurd (true≢false (sym t ∙ n)), λ m. absurd (elim m [ inl f ↦ true≢false (sym (multiple_lost f) ∙ n) | inr j ↦ true≢false (sym j.below ∙ b) ]))

  decided : (s : Bool) (u g : ℕ) → u < 2 ^ 53 → u ≤ 2 ^ 26 * 2 ^ g → Over (2 ^ g) idx s u → (le (fold_reflect idx (num L)) minus1 ≡ true) ↔ Lost L idx
  decided false u g S B h = above (not_below L least most g u S B h) (up_above L least most g u S B h)
  decided true zero g S B h = above low (ap (λ (x : Float). le x minus1) (sym (stays idx (num L) low inner)) ∙ nearer_zero idx 0 (2 ^ g) (pow_pos g) (at_most_value idx true 0 (2 ^ g) h.value))
    where
      low : lt idx (num 0) ≡ false
      low = lt-over (pow_pos g) h (num-over (pow_pos g) 0 zero-le) ∙ le-ltb 0 (0 + 0 * 2 ^ g) (omega (arith, zero-mul (2 ^ g)))

      inner : le (num L) idx ≡ false
      inner = le-over (pow_pos g) (len_over L least most g) h ∙ ap (λ (b : Bool). b && b) (ne_eqb (L * 2 ^ g) 0 (λ e. omega (arith, twice L least most g, pow_pos g)))
  decided true (suc u) g S B h = under (suc u) g (zero-lt-suc u) S B h

pub reflect_outside : (L : ℕ) (idx : Float) → 2 ≤ L → L ≤ 4120 → T (fits binary64 idx) → Within 26 idx → (le (fold Reflect idx (num L)) (neg (num 1)) ≡ true) ↔ Lost L idx
unfolding fold
reflect_outside L idx least most f w = let D = dyadic_of idx (lit≤ tt) f w in decided L least most D D.sign D.u D.g D.short D.bound D.is

-- No coordinate just above -2kL is lost by its quotient by 2L rounding up to k: the rounded quotient stays below k.
pub no_round_up : (L k : ℕ) (idx : Float) → 2 ≤ L → L ≤ 4120 → 2 * L * k ≤ 2 ^ 53 → T (fits binary64 idx) → Within 26 idx → lt (neg (num (2 * L * k))) idx ≡ true → lt idx (num 0) ≡ true → lt (neg idx ⊘ reflect_period (num L)) (num k) ≡ true
no_round_up L k idx least most K f w a b = let D = dyadic_of idx (lit≤ tt) f w in go D.sign D.u D.g D.short D.bound D.is
  where
    go : (s : Bool) (u g : ℕ) → u < 2 ^ 53 → u ≤ 2 ^ 26 * 2 ^ g → Over (2 ^ g) idx s u → lt (neg idx ⊘ reflect_period (num L)) (num k) ≡ true
    go false u g S B h = absurd (true≢false (sym b ∙ not_below L least most g u S B h))
    go true u g S B h =
        let l : u < 2 * L * k * 2 ^ g = ltb-true u (2 * L * k * 2 ^ g) (sym (lt-over (pow_pos g) (neg-over (num-over (pow_pos g) (2 * L * k) K)) h) ∙ a) in
        let l' : u < k * (2 * L) * 2 ^ g = subst (λ (n : ℕ). u < n * 2 ^ g) (mul_comm (2 * L) k) l in
        quotient_stays_below g (neg-over h) S (period L least most g) (omega arith) k (first_pos k (2 * L) (first_pos (k * (2 * L)) (2 ^ g) (lt_of_le_of_lt zero-le l'))) (le_trans (le_of_eq (mul_comm k (2 * L))) K) l'
