-- When a number is at -1 or below, and when a number less 1 rounds to -1 or below.
use Rattle.std.proofs.Common.{◌≡◌, ℕ, ◌-◌, ◌*◌, ◌^◌, ◌<◌, ◌≤◌, Bool, true, false, cond, eqb, leb, sym, refl, ap, ◌∙◌, subst, true≢false, le_trans, le_of_eq, lt_of_lt_of_le, lt_of_le_of_lt, mul_comm, lt_of_mul-lt-mul_right, mul-lt-mul_of_pos_right, one-mul, mul-one, arith, lit<, lit≤, eqb→eq, pow_pos, le-ltb, lt-ltb, le-leb}
use mathlib.Core.Logic.{dite}
use native.Mathlib.Decide.{dec_le, dec_lt}
use lib.Ieee.{Float, nan, inf, fin, binary64, up, down, level, round, sum, neg, le, of_int}
use lib.Ieee.Exact.{HasValue}
use lib.Ieee.Fits.{down_pos, and_l, and_r}
use lib.Ieee.Order.{round_mono}
use borrow.Author.Tests.{lt-leb}
use Rattle.exact.specs.Rounded.{◌⊖◌, num}
use Rattle.exact.proofs.Value.{bool_ext}
use Rattle.exact.proofs.Bounds.{AtMost, AtLeast, HasSign, round_signed, round_neg, neg-at_most, neg-at-least, le-at-least}
use Rattle.exact.proofs.Above.{minus_one}
use Rattle.exact.proofs.Middles.{round_below_middle}
use Rattle.exact.proofs.Over.{Over, num-over, difference_over, leb_turned}

-- ---- at -1 or below, and above it
at_minus_one : (x : Float) → HasSign true x → AtLeast x 1 1 → le x minus_one ≡ true
unfolding le
at_minus_one nan s h = absurd s
at_minus_one (inf true) s h = refl
at_minus_one (inf false) s h = absurd (true≢false (sym s))
at_minus_one (fin true m e) s h = leb_turned (m * up e * 1) (1 * down e) ∙ le-leb (1 * down e) (m * up e * 1) h
at_minus_one (fin false m e) s h = absurd (true≢false (sym s))

no_minus : (x : Float) → HasSign false x → le x minus_one ≡ false
unfolding le
no_minus nan s = absurd s
no_minus (inf true) s = absurd (true≢false s)
no_minus (inf false) s = refl
no_minus (fin true m e) s = absurd (true≢false s)
no_minus (fin false m e) s =
    let a = m * up e * 1 in
    let b = 1 * down e in
    bool_ext (level false a true b) false
    (λ t. not-zero a (down e) (down_pos e) (eqb→eq a b (and_l (eqb a b) (eqb a 0) t)) (eqb→eq a 0 (and_r (eqb a b) (eqb a 0) t))) (λ t. absurd t)
  where
    not-zero : (a d : ℕ) → 0 < d → a ≡ 1 * d → a ≡ 0 → ⊥
    not-zero a d D p q = omega arith

short_of_one : (x : Float) (a c : ℕ) → a < c → AtMost x a c → le x minus_one ≡ false
unfolding le
short_of_one nan a c l h = absurd h
short_of_one (inf t) a c l h = absurd h
short_of_one (fin true m e) a c l h =
    leb_turned (m * up e * 1) (1 * down e)
    ∙ lt-leb (1 * down e) (m * up e * 1)
    (lt_of_mul-lt-mul_right c (lt_of_le_of_lt (le_trans (le_of_eq (ap (λ (z : ℕ). z * c) (mul-one (m * up e)))) h) (lt_of_lt_of_le (mul-lt-mul_of_pos_right l (down_pos e)) (le_of_eq (mul_comm c (down e) ∙ ap (λ (z : ℕ). z * c) (sym (one-mul (down e))))))))
short_of_one (fin false m e) a c l h = no_minus (fin false m e) refl

minus_one_lem : neg (num 1) ≡ minus_one
unfolding neg of_int
minus_one_lem = refl

pub not_negative : (x : Float) → HasSign false x → le x (neg (num 1)) ≡ false
not_negative x s = ap (λ (y : Float). le x y) minus_one_lem ∙ no_minus x s

pub nearer_zero : (x : Float) (a c : ℕ) → a < c → AtMost x a c → le x (neg (num 1)) ≡ false
nearer_zero x a c l h = ap (λ (y : Float). le x y) minus_one_lem ∙ short_of_one x a c l h

-- ---- y - 1, with y = d / 2 ^ g, rounds to -1 or below where y is at most 2 ^ -54: half of the step from -1 up, and a tie goes to -1
module _ (G d : ℕ) (P : 0 < G) (l : d < G) where
  deep : d * 2 ^ 54 ≤ G → le (round binary64 true (G - d) G) minus_one ≡ true
  deep h = at_minus_one (round binary64 true (G - d) G) (round_signed binary64 true (G - d) G) (subst (λ (x : Float). AtLeast x 1 1) (sym (round_neg binary64 (G - d) G)) (neg-at-least (round binary64 false (G - d) G) 1 1 least))
    where
      tie : HasValue (round binary64 false (2 ^ 54 - 1) (2 ^ 54)) false 1 1
      tie = unfold round in (refl, refl)

      least : AtLeast (round binary64 false (G - d) G) 1 1
      least = le-at-least (round binary64 false (2 ^ 54 - 1) (2 ^ 54)) (round binary64 false (G - d) G) 1 1 (round_signed binary64 false (G - d) G) tie (round_mono binary64 (2 ^ 54 - 1) (2 ^ 54) (G - d) G (pow_pos 54) P (omega arith))

  shallow : G < d * 2 ^ 54 → le (round binary64 true (G - d) G) minus_one ≡ false
  shallow h =
      short_of_one (round binary64 true (G - d) G) (2 ^ 53 - 1) (2 ^ 53) (lit< tt)
      (subst (λ (x : Float). AtMost x (2 ^ 53 - 1) (2 ^ 53)) (sym (round_neg binary64 (G - d) G))
      (neg-at_most (round binary64 false (G - d) G) (2 ^ 53 - 1) (2 ^ 53) (round_below_middle (G - d) G (2 ^ 53 - 1) 53 P (lit≤ tt) (lit< tt) (lit≤ tt) (omega arith))))

pub less_one : (g : ℕ) {y : Float} {d : ℕ} → Over (2 ^ g) y false d → le (y ⊖ num 1) (neg (num 1)) ≡ leb (d * 2 ^ 54) (2 ^ g)
unfolding sum
less_one g {y} {d} h =
    let G = 2 ^ g in
    let P : 0 < G = pow_pos g in
    let one : Over G (num 1) false G = subst (λ (k : ℕ). Over G (num 1) false k) (one-mul G) (num-over P 1 (lit≤ tt)) in
    ap (λ (x : Float). le (y ⊖ num 1) x) minus_one_lem ∙ ap (λ (x : Float). le x minus_one) (difference_over P h one)
    ∙ dite (dec_lt d G)
    (λ l. ap (λ (b : Bool). le (cond b (round binary64 true (G - d) G) (round binary64 false (d - G) G)) minus_one) (lt-ltb d G l)
    ∙ dite (dec_le (d * 2 ^ 54) G) (λ k. deep G d P l k ∙ sym (le-leb (d * 2 ^ 54) G k)) (λ o. let k : G < d * 2 ^ 54 = omega arith in shallow G d P l k ∙ sym (lt-leb (d * 2 ^ 54) G k)))
    (λ o. ap (λ (b : Bool). le (cond b (round binary64 true (G - d) G) (round binary64 false (d - G) G)) minus_one) (le-ltb d G (omega arith))
    ∙ no_minus (round binary64 false (d - G) G) (round_signed binary64 false (d - G) G) ∙ sym (lt-leb (d * 2 ^ 54) G (omega arith)))
