-- Numbers that are neither below 0 nor above a whole number n. -0.0 is one of them; with a whole number added none has a minus sign, and the sum is bounded in units of 2^-14.
use Rattle.std.proofs.Common.{◌≡◌, ℕ, ◌+◌, ◌-◌, ◌*◌, ◌^◌, ◌<◌, ◌≤◌, Bool, true, false, cond, ◌&&◌, ltb, ℤ, pos, sym, refl, ap, ◌∙◌, subst, true≢false, le_trans, le_of_eq, mul-le-mul_right, add-mul, mul-pos, mul-one, mul_right_comm, arith, lit<, lit≤, ltb-false, le-ltb}
use lib.Ieee.{Float, nan, inf, fin, binary64, up, down, round, sum, lt, below}
use lib.Ieee.Fits.{down_pos}
use Rattle.exact.specs.Rounded.{◌⊕◌, num}
use Rattle.exact.specs.Whole.{Is}
use Rattle.exact.specs.Within.{Bounded, Within}
use Rattle.exact.proofs.Value.{add_val, lt_val}
use Rattle.exact.proofs.Whole.{W_val}
use Rattle.exact.proofs.Is.{is_size, lt_is}
use Rattle.exact.proofs.Naturals.{not_below}
use Rattle.exact.proofs.Withins.{is_within}
use Rattle.exact.proofs.Upto.{Upto, rounded}

abbrev Lies : ℕ → Float → Type 0
Lies n nan = ⊥
Lies n (inf s) = ⊥
Lies n (fin true m e) = m * up e ≡ 0
Lies n (fin false m e) = m * up e ≤ n * down e

-- x lies from 0 to n
pub record Between (n : ℕ) (x : Float) : Type 0 where
  pub lies : Lies n x

-- ---- by the tests of a clamp, whose far end is n
not_above : (s : Bool) (a b n d : ℕ) → a ≡ n → below s (a * d) false (b * 1) ≡ false → b ≤ n * d
not_above false a b n d e t = subst (λ (k : ℕ). b ≤ k * d) e (le_trans (le_of_eq (sym (mul-one b))) (ltb-false (a * d) (b * 1) t))
not_above true a b n d e t = omega (arith, ltb-false 0 (a * d + b * 1) t)

module _ {x last : Float} {n : ℕ} where
  pub between : {k : ℕ} → Within k x → Is last (pos n) → lt x (num 0) ≡ false → lt last x ≡ false → Between n x
  between {k} w h least most = record { lies = go x w.bound least most }
    where
      go : (x : Float) → Bounded k x → lt x (num 0) ≡ false → lt last x ≡ false → Lies n x
      go nan b p q = b
      go (inf s) b p q = b
      go (fin true m e) b p q =
          let t = ltb-false 0 (m * up e * 1 + 0 * down e) (sym (lt_val (fin true m e) (num 0) true false (m * up e) (down e) 0 1 (down_pos e) (lit< tt) (refl, refl) (W_val (pos 0) (lit≤ tt))) ∙ p) in
          omega (arith, t)
      go (fin false m e) b p q =
          not_above h.sign h.size (m * up e) n (down e) (sym (is_size h)) (sym (lt_val last (fin false m e) h.sign false h.size 1 (m * up e) (down e) (lit< tt) (down_pos e) h.value (refl, refl)) ∙ q)

-- n itself
pub between_is : {x : Float} {n : ℕ} → n ≤ 2 ^ 53 → Is x (pos n) → Between n x
between_is {x} {n} l h = between (is_within 53 h l) h (not_below h) (lt_is h h ∙ le-ltb n n (omega arith))

-- ---- with a whole number added
-- a / c + b / c, where a is 0 if it bears a minus sign
sum_upto : (s : Bool) (a b c u v : ℕ) → 0 < c → (s ≡ true → a ≡ 0) → a * 2 ^ 14 ≤ u * c → b * 2 ^ 14 ≤ v * c → u + v < 2 ^ 53 → Upto (u + v) (sum binary64 s a false b c)
unfolding sum
sum_upto false a b c u v C z h k U = rounded (a + b) c (u + v) C U (omega (arith, h, k, add-mul a b (2 ^ 14), add-mul u v c))
sum_upto true a b c u v C z h k U = go (ltb a b)
  where
    nothing : a ≡ 0
    nothing = z refl

    go : (t : Bool) → Upto (u + v) (cond t (round binary64 false (b - a) c) (round binary64 (true && ltb b a) (a - b) c))
    go true = rounded (b - a) c (u + v) C U (omega (arith, k, add-mul u v c, nothing))
    go false = subst (λ (t : Bool). Upto (u + v) (round binary64 t (a - b) c)) (sym (le-ltb b a (omega (arith, nothing)))) (rounded (a - b) c (u + v) C U (omega (arith, add-mul u v c, nothing)))

pub between_upto : {x : Float} {n : ℕ} (p : ℕ) → Between n x → p ≤ 2 ^ 53 → n * 2 ^ 14 + p * 2 ^ 14 < 2 ^ 53 → Upto (n * 2 ^ 14 + p * 2 ^ 14) (x ⊕ num p)
between_upto {x} {n} p b P U = go x b.lies
  where
    by : (s : Bool) (m : ℕ) (e : ℤ) → (s ≡ true → m * up e ≡ 0) → m * up e ≤ n * down e → Upto (n * 2 ^ 14 + p * 2 ^ 14) (fin s m e ⊕ num p)
    by s m e z h =
        subst (λ (y : Float). Upto (n * 2 ^ 14 + p * 2 ^ 14) y) (sym (add_val binary64 (fin s m e) (num p) s false (m * up e) (down e) p 1 (down_pos e) (lit< tt) (refl, refl) (W_val (pos p) P)))
        (sum_upto s (m * up e * 1) (p * down e) (down e * 1) (n * 2 ^ 14) (p * 2 ^ 14) (mul-pos (down_pos e) (lit< tt)) (λ t. mul-one (m * up e) ∙ z t) (over (m * up e) (down e) (2 ^ 14) h) (le_of_eq (same (down e) (2 ^ 14))) U)
      where
        over : (a d K : ℕ) → a ≤ n * d → a * 1 * K ≤ n * K * (d * 1)
        over a d K h = le_trans (le_of_eq (ap (λ (k : ℕ). k * K) (mul-one a))) (le_trans (mul-le-mul_right K h) (le_of_eq (mul_right_comm n d K ∙ ap (λ (k : ℕ). n * K * k) (sym (mul-one d)))))

        same : (d K : ℕ) → p * d * K ≡ p * K * (d * 1)
        same d K = mul_right_comm p d K ∙ ap (λ (k : ℕ). p * K * k) (sym (mul-one d))

    go : (x : Float) → Lies n x → Upto (n * 2 ^ 14 + p * 2 ^ 14) (x ⊕ num p)
    go nan s = absurd s
    go (inf t) s = absurd s
    go (fin true m e) s = by true m e (λ _. s) (omega (arith, s))
    go (fin false m e) s = by false m e (λ t. absurd (true≢false (sym t))) s
