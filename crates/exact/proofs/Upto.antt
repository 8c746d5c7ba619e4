-- Numbers from 0 up, bounded in units of 2^-14. A bound below 2^53 of them is an f64, so no rounding passes it, and sums, products and quotients keep such bounds.
use Rattle.std.proofs.Common.{◌≡◌, ℕ, ◌+◌, ◌*◌, ◌/◌, ◌%◌, ◌^◌, ◌<◌, ◌≤◌, true, false, T, ◌⊎◌, ℤ, pos, sym, refl, ap, ◌∙◌, subst, inl, inr, true≢false, le_trans, le_of_eq, lt_of_le_of_lt, mul-le-mul_right, mul_assoc, div-lt_iff_lt-mul, add-mul, le_antisymm, lt_of_mul-lt-mul_right, mul-le-mul_left, mul-lt-mul_of_pos_right, mul-pos, one-mul, mul-one, mul_right_comm, le_of_mul-le-mul_right, arith, lit<, lit≤, le-ltb, lt-ltb}
use native.Mathlib.Decide.{ℕ_discrete, dec_lt}
use mathlib.Core.Logic.{dite}
use lib.Ieee.{Float, nan, inf, fin, binary64, up, down, round, neg, add, sum, lt, le, of_int}
use lib.Ieee.Fits.{down_pos}
use Rattle.exact.specs.Rounded.{◌⊕◌, ◌⊗◌, ◌⊘◌, num, half}
use Rattle.exact.specs.Whole.{Is}
use Rattle.exact.specs.Floor.{floor_f}
use Rattle.exact.proofs.Tests.{le_of_level}
use Rattle.exact.proofs.Value.{bool_ext, mul_val, div_val, le_val}
use Rattle.exact.proofs.Whole.{W_val}
use Rattle.exact.proofs.Is.{W_is}
use Rattle.exact.proofs.Bounds.{AtMost, HasSign, round_signed, round_at_most}
use Rattle.exact.proofs.Floors.{floor_whole, floor_broken}
use Rattle.exact.proofs.Quotients.{dyadic, whole_val}

abbrev Most : ℕ → Float → Type 0
Most u nan = ⊥
Most u (inf s) = ⊥
Most u (fin true m e) = ⊥
Most u (fin false m e) = m * up e * 2 ^ 14 ≤ u * down e

-- x has no minus sign and is at most u / 2^14
pub record Upto (u : ℕ) (x : Float) : Type 0 where
  pub bound : Most u x

on_upto : (P : Float → Type 0) {u : ℕ} {x : Float} → Upto u x → ((m : ℕ) (e : ℤ) → m * up e * 2 ^ 14 ≤ u * down e → P (fin false m e)) → P x
on_upto P {u} {x} h k = go x h.bound
  where
    go : (x : Float) → Most u x → P x
    go nan b = absurd b
    go (inf s) b = absurd b
    go (fin true m e) b = absurd b
    go (fin false m e) b = k m e b

-- ---- what is rounded
pub rounded : (n d u : ℕ) → 0 < d → u < 2 ^ 53 → n * 2 ^ 14 ≤ u * d → Upto u (round binary64 false n d)
rounded n d u D U h = go (round binary64 false n d) (round_signed binary64 false n d) (round_at_most binary64 false n d u (2 ^ 14) D (lit< tt) h (dyadic false u 14 U (lit≤ tt)))
  where
    go : (x : Float) → HasSign false x → AtMost x u (2 ^ 14) → Upto u x
    go nan s b = absurd b
    go (inf t) s b = absurd b
    go (fin true m e) s b = absurd (true≢false s)
    go (fin false m e) s b = record { bound = b }

pub upto_num : (n : ℕ) → n * 2 ^ 14 < 2 ^ 53 → Upto (n * 2 ^ 14) (num n)
unfolding of_int
upto_num n U = rounded n 1 (n * 2 ^ 14) (lit< tt) U (le_of_eq (sym (mul-one (n * 2 ^ 14))))

pub upto_half : Upto (2 ^ 13) half
upto_half = record { bound = lit≤ tt }

pub upto_sum : {u v : ℕ} {x y : Float} → Upto u x → Upto v y → u + v < 2 ^ 53 → Upto (u + v) (x ⊕ y)
unfolding add sum
upto_sum {u} {v} {x} {y} h k U =
    on_upto (λ (x : Float). Upto (u + v) (x ⊕ y)) h
    (λ m e a. on_upto (λ (y : Float). Upto (u + v) (fin false m e ⊕ y)) k
    (λ n g b. rounded (m * up e * down g + n * up g * down e) (down e * down g) (u + v) (mul-pos (down_pos e) (down_pos g)) U (over (m * up e) (n * up g) (down e) (down g) (2 ^ 14) a b)))
  where
    over : (a b d g K : ℕ) → a * K ≤ u * d → b * K ≤ v * g → (a * g + b * d) * K ≤ (u + v) * (d * g)
    over a b d g K h k =
        let l : a * g * K ≤ u * (d * g) = le_trans (le_of_eq (mul_right_comm a g K)) (le_trans (mul-le-mul_right g h) (le_of_eq (mul_assoc u d g))) in
        let r : b * d * K ≤ v * (d * g) = le_trans (le_of_eq (mul_right_comm b d K)) (le_trans (mul-le-mul_right d k) (le_of_eq (mul_right_comm v g d ∙ mul_assoc v d g))) in
        omega (arith, add-mul (a * g) (b * d) K, add-mul u v (d * g))

-- a whole number times x
pub upto_multiple : (i : ℕ) {u v : ℕ} {x : Float} → i ≤ 2 ^ 53 → Upto u x → i * u ≤ v → v < 2 ^ 53 → Upto v (num i ⊗ x)
upto_multiple i {u} {v} {x} I h most U =
    on_upto (λ (x : Float). Upto v (num i ⊗ x)) h
    (λ m e a.
    subst (λ (x : Float). Upto v x) (sym (mul_val binary64 (num i) (fin false m e) false false i 1 (m * up e) (down e) (lit< tt) (down_pos e) (W_val (pos i) I) (refl, refl)))
    (rounded (i * (m * up e)) (1 * down e) v (mul-pos (lit< tt) (down_pos e)) U (over (m * up e) (down e) (2 ^ 14) a)))
  where
    over : (n d K : ℕ) → n * K ≤ u * d → i * n * K ≤ v * (1 * d)
    over n d K h =
        le_trans (le_of_eq (mul_assoc i n K)) (le_trans (mul-le-mul_left i h) (le_trans (le_of_eq (sym (mul_assoc i u d))) (le_trans (mul-le-mul_right d most) (le_of_eq (ap (λ (k : ℕ). v * k) (sym (one-mul d)))))))

pub upto_quotient : (a b u : ℕ) → a ≤ 2 ^ 53 → b ≤ 2 ^ 53 → 0 < b → u < 2 ^ 53 → a * 2 ^ 14 ≤ u * b → Upto u (num a ⊘ num b)
upto_quotient a b u A B some U h =
    subst (λ (x : Float). Upto u x) (sym (div_val binary64 (num a) (num b) false false a 1 b 1 (lit< tt) (lit< tt) some (W_val (pos a) A) (W_val (pos b) B)))
    (rounded (a * 1) (b * 1) u (mul-pos some (lit< tt)) U (le_trans (le_of_eq (ap (λ (k : ℕ). k * 2 ^ 14) (mul-one a))) (le_trans h (le_of_eq (ap (λ (k : ℕ). u * k) (sym (mul-one b)))))))

-- ---- what tests say of such a number
floor_below : (m : ℕ) (e : ℤ) (L : ℕ) → m * up e < L * down e → L ≤ 2 ^ 53 → (k : ℕ) × (k < L) × Is (floor_f (fin false m e)) (pos k)
floor_below m e L below short =
    let k = m * up e / down e in
    let l : k < L = (div-lt_iff_lt-mul (down_pos e)).1 below in (
      k,
      l,
      dite (ℕ_discrete (m * up e % down e) 0)
          (λ z. subst (λ (y : Float). Is y (pos k)) (sym (floor_whole false m e z)) (record { sign = false; size = k; value = whole_val false m e z; number = refl }))
          (λ b. subst (λ (y : Float). Is y (pos k)) (sym (floor_broken false m e b)) (W_is (pos k) (omega arith))),
    )

module _ {u : ℕ} {x : Float} (h : Upto u x) where
  pub upto_least : lt x (num 0) ≡ false
  unfolding lt of_int round
  upto_least = on_upto (λ (x : Float). lt x (num 0) ≡ false) h (λ m e a. le-ltb (m * up e * 1) (0 * down e) (omega arith))

  pub upto_kept : lt (neg (num 1)) x ≡ true
  unfolding lt neg of_int round
  upto_kept = on_upto (λ (x : Float). lt (neg (num 1)) x ≡ true) h (λ m e a. lt-ltb 0 (1 * 1 * down e + m * up e * 1) (omega (arith, down_pos e)))

  module _ (L : ℕ) (room : u < L * 2 ^ 14) (short : L ≤ 2 ^ 53) where
    below : (n d : ℕ) → 0 < d → n * 2 ^ 14 ≤ u * d → n < L * d
    below n d D a = lt_of_mul-lt-mul_right (2 ^ 14) (lt_of_le_of_lt a (subst (λ (k : ℕ). u * d < k) (mul_right_comm L (2 ^ 14) d) (mul-lt-mul_of_pos_right room D)))

    pub upto_below : le (num L) x ≡ false
    upto_below =
        on_upto (λ (x : Float). le (num L) x ≡ false) h
        (λ m e a.
        bool_ext (le (num L) (fin false m e)) false
        (λ t. omega (arith, below (m * up e) (down e) (down_pos e) a, le_of_level (L * down e) (m * up e * 1) (subst T (le_val (num L) (fin false m e) false false L 1 (m * up e) (down e) (lit< tt) (down_pos e) (W_val (pos L) short) (refl, refl)) t)))
        (λ t. absurd t))

    -- its floor is one of the numbers below L
    pub upto_floor : (k : ℕ) × (k < L) × Is (floor_f x) (pos k)
    upto_floor = on_upto (λ (x : Float). (k : ℕ) × (k < L) × Is (floor_f x) (pos k)) h (λ m e a. floor_below m e L (below (m * up e) (down e) (down_pos e) a) short)

-- a number up to n has a floor below n, or is n
pub upto_top : {n : ℕ} {x : Float} → n ≤ 2 ^ 53 → Upto (n * 2 ^ 14) x → ((k : ℕ) × (k < n) × Is (floor_f x) (pos k)) ⊎ Is x (pos n)
upto_top {n} {x} N h = on_upto (λ (x : Float). ((k : ℕ) × (k < n) × Is (floor_f x) (pos k)) ⊎ Is x (pos n)) h (λ m e a. dite (dec_lt (m * up e) (n * down e)) (λ l. inl (floor_below m e n l N)) (λ no. inr (top m e a (omega arith))))
  where
    most : (a d K : ℕ) → 0 < K → a * K ≤ n * K * d → a ≤ n * d
    most a d K P h = le_of_mul-le-mul_right (le_trans h (le_of_eq (mul_right_comm n K d))) P

    top : (m : ℕ) (e : ℤ) → m * up e * 2 ^ 14 ≤ n * 2 ^ 14 * down e → n * down e ≤ m * up e → Is (fin false m e) (pos n)
    top m e a l = record { sign = false; size = n; value = (refl, mul-one (m * up e) ∙ le_antisymm (most (m * up e) (down e) (2 ^ 14) (lit< tt) a) l); number = refl }
