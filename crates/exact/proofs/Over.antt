-- Floats over a common denominator c: sums, differences and comparisons are those of the numerators.
use Rattle.std.proofs.Common.{◌≡◌, ℕ, zero, suc, ◌-◌, ◌*◌, ◌^◌, ◌<◌, ◌≤◌, Bool, true, false, cond, not, ◌&&◌, ◌||◌, T, eqb, ltb, leb, ℤ, pos, negsuc, nat_abs, sym, refl, ap, ◌∙◌, subst, suc-le-suc, zero-le, le_trans, le_of_eq, lt_of_le_of_lt, mul-le-mul_right, zero-lt-suc, mul_assoc, mul-pos, one-mul, zero-mul, mul-one, mul_right_comm, lit<, le→leb, leb→le, le-ltb, lt-ltb}
use native.Mathlib.Nat.{eq_of_mul-eq-mul_right}
use lib.Pow.{pow-lt}
use lib.Ieee.{Float, nan, inf, fin, binary64, up, down, below, level, round, sum, neg, lt, le, fits}
use lib.Ieee.Exact.{HasValue}
use lib.Ieee.Fits.{down_pos, eq→eqb, and_i}
use lib.Ieee.Back.{round_whole}
use Rattle.exact.specs.Rounded.{◌⊕◌, ◌⊖◌, ◌⊗◌, num}
use Rattle.exact.specs.Whole.{Is}
use Rattle.exact.specs.Within.{Within}
use Rattle.exact.proofs.Tests.{le_of_level, le_of_test, test_of_le, equal}
use Rattle.exact.proofs.Value.{bool_ext, add_val, sub_val, neg_val, lt_val, le_val, sum_same, below_scale, level_scale}
use Rattle.exact.proofs.Whole.{W_val, mul-whole}
use Rattle.exact.proofs.Is.{is_size, is_value}
use Rattle.exact.proofs.Bounds.{HasSign, round_signed}
use Rattle.exact.proofs.Quotients.{dyadic}
use Rattle.exact.proofs.Unique.{fits_says}

-- ---- from one fraction to another of the same size
pub rescaled : (x : Float) (s : Bool) (a c b d : ℕ) → 0 < c → a * d ≡ b * c → HasValue x s a c → HasValue x s b d
rescaled nan s a c b d C e v = v
rescaled (inf t) s a c b d C e v = v
rescaled (fin t m x) s a c b d C e v = (
  v.0,
  eq_of_mul-eq-mul_right c C (m * up x * d) (b * down x)
      (mul_right_comm (m * up x) d c ∙ ap (λ (z : ℕ). z * d) v.1 ∙ mul_right_comm a (down x) d ∙ ap (λ (z : ℕ). z * down x) e ∙ mul_right_comm b c (down x)),
)

-- x is a / c, or -a / c where s is true
pub record Over (c : ℕ) (x : Float) (s : Bool) (a : ℕ) : Type 0 where
  pub value : HasValue x s a c

module _ {c : ℕ} (C : 0 < c) where
  pub whole-over : (x : Float) (s : Bool) (n : ℕ) → HasValue x s n 1 → Over c x s (n * c)
  whole-over x s n v = record { value = rescaled x s n 1 (n * c) c (zero-lt-suc 0) (sym (mul-one (n * c))) v }

  pub num-over : (n : ℕ) → n ≤ 2 ^ 53 → Over c (num n) false (n * c)
  num-over n h = whole-over (num n) false n (W_val (pos n) h)

  pub is_over : {x : Float} {n : ℕ} → Is x (pos n) → 0 < n → Over c x false (n * c)
  is_over {x} {n} h p = whole-over x false n (is_value h p)

  module _ {x y : Float} {s t : Bool} {a b : ℕ} where
    pub sum_over : Over c x s a → Over c y t b → x ⊕ y ≡ sum binary64 s a t b c
    sum_over h k =
        add_val binary64 x y s t a c b c C C h.value k.value
        ∙ sum_same binary64 s (a * c) t (b * c) (c * c) a b c (mul-pos C C) C (mul_assoc a c c) (mul_assoc b c c)

    pub difference_over : Over c x s a → Over c y t b → x ⊖ y ≡ sum binary64 s a (not t) b c
    difference_over h k =
        sub_val binary64 x y s t a c b c C C h.value k.value
        ∙ sum_same binary64 s (a * c) (not t) (b * c) (c * c) a b c (mul-pos C C) C (mul_assoc a c c) (mul_assoc b c c)

    pub lt-over : Over c x s a → Over c y t b → lt x y ≡ below s a t b
    lt-over h k = lt_val x y s t a c b c C C h.value k.value ∙ below_scale s (a * c) t (b * c) a b 1 c (zero-lt-suc 0) C (mul-one (a * c)) (mul-one (b * c))

    pub le-over : Over c x s a → Over c y t b → le x y ≡ (below s a t b || level s a t b)
    le-over h k =
        le_val x y s t a c b c C C h.value k.value
        ∙ ap (λ (z : Bool). z || level s (a * c) t (b * c)) (below_scale s (a * c) t (b * c) a b 1 c (zero-lt-suc 0) C (mul-one (a * c)) (mul-one (b * c)))
        ∙ ap (λ (z : Bool). below s a t b || z) (level_scale s (a * c) t (b * c) a b 1 c (zero-lt-suc 0) C (mul-one (a * c)) (mul-one (b * c)))

pub neg-over : {c : ℕ} {x : Float} {s : Bool} {a : ℕ} → Over c x s a → Over c (neg x) (not s) a
neg-over {c} {x} {s} {a} h = record { value = neg_val x s a c h.value }

-- the test of order at two numbers that are not negative, and at two that are
pub leb_is : (a b : ℕ) → (ltb a b || (eqb a b && true)) ≡ leb a b
leb_is a b =
    bool_ext (ltb a b || (eqb a b && true)) (leb a b) (λ t. le→leb a b (le_of_level a b t))
    (λ t. test_of_le a b (eqb a b && true) (λ e. and_i (eqb a b) true (eq→eqb e) tt) (leb→le a b t))

pub leb_turned : (a b : ℕ) → (ltb b a || (eqb a b && true)) ≡ leb b a
leb_turned a b =
    bool_ext (ltb b a || (eqb a b && true)) (leb b a) (λ t. le→leb b a (le_of_test b a (eqb a b && true) (λ u. sym (equal a b u)) t))
    (λ t. test_of_le b a (eqb a b && true) (λ e. and_i (eqb a b) true (eq→eqb (sym e)) tt) (leb→le b a t))

-- ---- sums of a number and a negative one: exact where few digits are left, and not negative where the first is the larger
pub exact_below : (a b g : ℕ) → a < b → b - a < 2 ^ 53 → g ≤ 1074 → HasValue (sum binary64 false a true b (2 ^ g)) true (b - a) (2 ^ g)
unfolding sum
exact_below a b g l S K =
    subst (λ (t : Bool). HasValue (cond t (round binary64 true (b - a) (2 ^ g)) (round binary64 false (a - b) (2 ^ g))) true (b - a) (2 ^ g)) (sym (lt-ltb a b l)) (dyadic true (b - a) g S K)

pub exact_above : (a b g : ℕ) → b ≤ a → a - b < 2 ^ 53 → g ≤ 1074 → HasValue (sum binary64 false a true b (2 ^ g)) false (a - b) (2 ^ g)
unfolding sum
exact_above a b g l S K =
    subst (λ (t : Bool). HasValue (cond t (round binary64 true (b - a) (2 ^ g)) (round binary64 false (a - b) (2 ^ g))) false (a - b) (2 ^ g)) (sym (le-ltb a b l)) (dyadic false (a - b) g S K)

pub sum_sign : (a b c : ℕ) → a ≤ b → HasSign false (sum binary64 true a false b c)
unfolding sum
sum_sign a b c l = go (ltb a b) (ltb b a) (le-ltb b a l)
  where
    go : (t u : Bool) → u ≡ false → HasSign false (cond t (round binary64 false (b - a) c) (round binary64 (true && u) (a - b) c))
    go true u e = round_signed binary64 false (b - a) c
    go false u e = subst (λ (s : Bool). HasSign false (round binary64 s (a - b) c)) (sym e) (round_signed binary64 false (a - b) c)

-- ---- a multiple of a whole number
pub multiple_over : {c : ℕ} {p : Float} {P : ℕ} (n : ℕ) → 0 < c → Is p (pos P) → 0 < P → P * n ≤ 2 ^ 53 → Over c (p ⊗ num n) false (P * n * c)
multiple_over {c} {p} {P} n C k some M =
    let N : n ≤ 2 ^ 53 = le_trans (le_trans (le_of_eq (sym (one-mul n))) (mul-le-mul_right n some)) M in
    whole-over C (p ⊗ num n) false (P * n) (subst (λ (x : Float). HasValue x false (P * n) 1) (sym (mul-whole binary64 p (num n) false false P n (is_value k some) (W_val (pos n) N))) (round_whole binary64 false (P * n) M))

-- ---- every float of size up to 2 ^ k is ±u / 2 ^ g, with u of 53 digits
pub record Dyadic (k : ℕ) (x : Float) : Type 0 where
  pub sign : Bool
  pub u : ℕ
  pub g : ℕ
  pub short : u < 2 ^ 53
  pub bound : u ≤ 2 ^ k * 2 ^ g
  pub is : Over (2 ^ g) x sign u

pub dyadic_of : (x : Float) {k : ℕ} → k ≤ 52 → T (fits binary64 x) → Within k x → Dyadic k x
dyadic_of nan K f w = absurd w.bound
dyadic_of (inf s) K f w = absurd w.bound
dyadic_of (fin s zero e) K f w = record { sign = s; u = 0; g = 0; short = lit< tt; bound = zero-le; is = record { value = (refl, ap (λ (z : ℕ). z * 1) (zero-mul (up e)) ∙ sym (zero-mul (down e))) } }
dyadic_of (fin s (suc m) (pos j)) {k} K f w =
    record { sign = s; u = suc m * 2 ^ j; g = 0; short = lt_of_le_of_lt w.bound (lt_of_le_of_lt (le_of_eq (mul-one (2 ^ k))) (pow-lt (suc-le-suc K))); bound = w.bound; is = record { value = (refl, refl) } }
dyadic_of (fin s (suc m) (negsuc j)) {k} K f w =
    let e : suc m * 1 ≡ suc m = mul-one (suc m) in
    record { sign = s; u = suc m; g = suc j; short = (fits_says binary64 s m (negsuc j) f).short; bound = subst (λ (z : ℕ). z ≤ 2 ^ k * 2 ^ suc j) e w.bound; is = record { value = (refl, ap (λ (z : ℕ). z * 2 ^ suc j) e) } }

-- a number by its fraction and as a whole number
pub over_size : {c : ℕ} {x : Float} {s : Bool} {a : ℕ} {z : ℤ} → Over c x s a → Is x z → a ≡ nat_abs z * c
over_size {c} {x} {s} {a} {z} h k = go x h.value k.value ∙ ap (λ (n : ℕ). n * c) (sym (is_size k))
  where
    go : (x : Float) → HasValue x s a c → HasValue x k.sign k.size 1 → a ≡ k.size * c
    go nan v w = absurd v
    go (inf t) v w = absurd v
    go (fin t m e) v w = eq_of_mul-eq-mul_right (down e) (down_pos e) a (k.size * c) (sym v.1 ∙ ap (λ (n : ℕ). n * c) (sym (mul-one (m * up e)) ∙ w.1) ∙ mul_right_comm k.size (down e) c)

pub over_sign : {c : ℕ} {x : Float} {s : Bool} {a : ℕ} → Over c x s a → HasSign s x
over_sign {c} {x} {s} {a} h = go x h.value
  where
    go : (x : Float) → HasValue x s a c → HasSign s x
    go nan v = v
    go (inf t) v = absurd v
    go (fin t m e) v = v.0
