-- `Is` at natural numbers and at their negatives, with the numbers in ℕ, where arithmetic is decided.
use Rattle.std.proofs.Common.{◌≡◌, ℕ, zero, suc, ◌+◌, ◌-◌, ◌*◌, ◌^◌, ◌≤◌, true, false, ltb, leb, ℤ, pos, ◌+ℤ◌, ◌-ℤ◌, neg_ℤ, nat_abs, sym, refl, ap, ◌∙◌, subst, inl, inr, le_trans, eq-or-lt_of_le, sub-le, arith, lit≤}
use lib.IntN.{+ℤ_comm, neg_ℤ-neg_ℤ}
use lib.Signed.{le_z}
use lib.Dec.{leb-zero, leb-suc-zero, leb-suc-suc}
use lib.Ieee.{Float, neg, lt, le}
use Rattle.exact.specs.Rounded.{◌⊕◌, ◌⊖◌, ◌⊗◌, num}
use Rattle.exact.specs.Whole.{Is}
use Rattle.exact.proofs.Is.{W_is, diff_neg, diff_pos, add_is, sub_is, mul_is, neg_is, lt_is, le_is, below_Z}

pub num_is : (n : ℕ) → n ≤ 2 ^ 53 → Is (num n) (pos n)
num_is n h = W_is (pos n) h

pub nat_abs-neg : (n : ℕ) → nat_abs (neg_ℤ (pos n)) ≡ n
nat_abs-neg zero = refl
nat_abs-neg (suc n) = refl

diff_le : (m n : ℕ) → m ≤ n → neg_ℤ (pos (n - m)) ≡ pos m +ℤ neg_ℤ (pos n)
diff_le m n h =
    elim (eq-or-lt_of_le h) [
      | inl e ↦ ap (λ (k : ℕ). neg_ℤ (pos k)) (none m n e) ∙ ap pos (sym (none' m n e)) ∙ diff_pos m n (back m n e)
      | inr l ↦ diff_neg m n l
    ]
  where
    none : (m n : ℕ) → m ≡ n → n - m ≡ 0
    none m n e = omega arith

    none' : (m n : ℕ) → m ≡ n → m - n ≡ 0
    none' m n e = omega arith

    back : (m n : ℕ) → m ≡ n → n ≤ m
    back m n e = omega arith

-- ---- operations
module _ {x y : Float} {a b : ℕ} where
  pub plus : Is x (pos a) → Is y (pos b) → a + b ≤ 2 ^ 53 → Is (x ⊕ y) (pos (a + b))
  plus h k l = add_is h k l

  pub times : Is x (pos a) → Is y (pos b) → a * b ≤ 2 ^ 53 → Is (x ⊗ y) (pos (a * b))
  times h k l = mul_is h k l

  pub minus : Is x (pos a) → Is y (pos b) → b ≤ a → a ≤ 2 ^ 53 → Is (x ⊖ y) (pos (a - b))
  minus h k l m =
      let e : pos (a - b) ≡ pos a -ℤ pos b = diff_pos a b l in
      subst (λ (z : ℤ). Is (x ⊖ y) z) (sym e) (sub_is h k (subst (λ (z : ℤ). nat_abs z ≤ 2 ^ 53) e (le_trans (sub-le a b) m)))

  -- the difference is not above 0
  pub minus_more : Is x (pos a) → Is y (pos b) → a ≤ b → b ≤ 2 ^ 53 → Is (x ⊖ y) (neg_ℤ (pos (b - a)))
  minus_more h k l m =
      let e : neg_ℤ (pos (b - a)) ≡ pos a -ℤ pos b = diff_le a b l in
      subst (λ (z : ℤ). Is (x ⊖ y) z) (sym e)
      (sub_is h k (subst (λ (z : ℤ). nat_abs z ≤ 2 ^ 53) e (le_trans (native.Mathlib.Nat.le_of_eq (nat_abs-neg (b - a))) (le_trans (sub-le b a) m))))

  pub neg_plus : Is x (neg_ℤ (pos a)) → Is y (pos b) → a ≤ b → b ≤ 2 ^ 53 → Is (x ⊕ y) (pos (b - a))
  neg_plus h k l m =
      let e : pos (b - a) ≡ neg_ℤ (pos a) +ℤ pos b = diff_pos b a l ∙ +ℤ_comm (pos b) (neg_ℤ (pos a)) in
      subst (λ (z : ℤ). Is (x ⊕ y) z) (sym e) (add_is h k (subst (λ (z : ℤ). nat_abs z ≤ 2 ^ 53) e (le_trans (sub-le b a) m)))

  pub plus_neg : Is x (pos a) → Is y (neg_ℤ (pos b)) → a ≤ b → b ≤ 2 ^ 53 → Is (x ⊕ y) (neg_ℤ (pos (b - a)))
  plus_neg h k l m =
      let e : neg_ℤ (pos (b - a)) ≡ pos a +ℤ neg_ℤ (pos b) = diff_le a b l in
      subst (λ (z : ℤ). Is (x ⊕ y) z) (sym e)
      (add_is h k (subst (λ (z : ℤ). nat_abs z ≤ 2 ^ 53) e (le_trans (native.Mathlib.Nat.le_of_eq (nat_abs-neg (b - a))) (le_trans (sub-le b a) m))))

pub negated : {x : Float} {a : ℕ} → Is x (neg_ℤ (pos a)) → Is (neg x) (pos a)
negated {x} {a} h = subst (λ (z : ℤ). Is (neg x) z) (neg_ℤ-neg_ℤ (pos a)) (neg_is h)

pub not_below : {x : Float} {a : ℕ} → Is x (pos a) → lt x (num 0) ≡ false
not_below {x} {a} h = lt_is h (num_is 0 (lit≤ tt)) ∙ leb-suc-zero a

-- ---- comparisons
pub lt_negatives : {x y : Float} (a b : ℕ) → Is x (neg_ℤ (pos a)) → Is y (neg_ℤ (pos b)) → lt x y ≡ ltb b a
lt_negatives a b h k = lt_is h k ∙ sym (below_Z true true a b)

pub le_negatives : {x y : Float} (a b : ℕ) → Is x (neg_ℤ (pos a)) → Is y (neg_ℤ (pos b)) → le x y ≡ leb b a
le_negatives a b h k = le_is h k ∙ go a b
  where
    go : (a b : ℕ) → le_z (neg_ℤ (pos a)) (neg_ℤ (pos b)) ≡ leb b a
    go zero zero = refl
    go zero (suc b) = sym (leb-suc-zero b)
    go (suc a) zero = sym (leb-zero (suc a))
    go (suc a) (suc b) = sym (leb-suc-suc b a)
