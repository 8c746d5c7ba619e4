-- Numbers above -1, as kept coordinates are: the floor is a whole number from -1 up, and a half more stays above -1. And the floor of a quotient, bounded by the dividend.
use Rattle.std.proofs.Common.{◌≡◌, ℕ, suc, ◌+◌, ◌-◌, ◌*◌, ◌/◌, ◌%◌, ◌^◌, ◌<◌, ◌≤◌, Bool, true, false, cond, not, ◌&&◌, T, ltb, ℤ, pos, negsuc, ◌-ℤ◌, nat_abs, sym, refl, ap, ◌∙◌, subst, true≢false, suc-le-suc, zero-le, le_trans, le_of_eq, le_refl, lt_of_lt_of_le, le_of_lt, mul-le-mul_right, zero-lt-suc, mul_assoc, div-lt_iff_lt-mul, mul-pos, one-mul, zero-mul, mul-one, div-le_self, arith, lit<, lit≤, ltb→lt, lt→ltb, pow_mono, le-ltb}
use mathlib.Core.Logic.{dite}
use native.Mathlib.Nat.{div-eq_of_lt}
use native.Mathlib.Decide.{ℕ_discrete}
use lib.Ieee.{Float, nan, inf, fin, binary64, up, down, unlike, round, sum, add, lt}
use lib.Ieee.Fits.{down_pos}
use lib.Ieee.Scale.{round_same, finite}
use Rattle.exact.specs.Rounded.{◌⊕◌, ◌⊖◌, ◌⊘◌, half}
use Rattle.exact.specs.Whole.{W, signed, Is}
use Rattle.exact.specs.Floor.{floor_f}
use Rattle.exact.specs.Within.{Within}
use Rattle.exact.proofs.Value.{div_val, sub_val}
use Rattle.exact.proofs.Is.{W_is, nat_abs-signed, is_value, diff_pos}
use Rattle.exact.proofs.Bounds.{AtMost, HasSign, round_signed, round_at_most}
use Rattle.exact.proofs.Floors.{floor_whole, floor_broken, cut_at_most, cut_less}
use Rattle.exact.proofs.Quotients.{dyadic, whole_val}
use Rattle.exact.proofs.Ranges.{floor_between}
use lib.Ieee.Back.{round_whole}

abbrev pub minus_one : Float
minus_one = fin true 1 (pos 0)

abbrev pub Above : Float → Type 0
Above x = T (lt minus_one x)

-- ---- the floor of a number of size up to c
pub floor_most : (y : Float) (c : ℕ) → c ≤ 2 ^ 53 → AtMost y c 1 → (z : ℤ) × (nat_abs z ≤ c) × Is (floor_f y) z
floor_most nan c C h = absurd h
floor_most (inf s) c C h = absurd h
floor_most (fin s m e) c C h = dite (ℕ_discrete (m * up e % down e) 0) whole (broken s)
  where
    most : m * up e ≤ c * down e
    most = le_trans (le_of_eq (sym (mul-one (m * up e)))) h

    whole : m * up e % down e ≡ 0 → (z : ℤ) × (nat_abs z ≤ c) × Is (floor_f (fin s m e)) z
    whole w = (
      signed s (m * up e / down e),
      le_trans (le_of_eq (nat_abs-signed s (m * up e / down e))) (cut_at_most (m * up e) (down e) c (down_pos e) most),
      subst (λ (x : Float). Is x (signed s (m * up e / down e))) (sym (floor_whole s m e w)) (record { sign = s; size = m * up e / down e; value = whole_val s m e w; number = refl }),
    )

    broken : (s : Bool) → (m * up e % down e ≡ 0 → ⊥) → (z : ℤ) × (nat_abs z ≤ c) × Is (floor_f (fin s m e)) z
    broken false b =
        let l = cut_at_most (m * up e) (down e) c (down_pos e) most in
        (pos (m * up e / down e), l, subst (λ (x : Float). Is x (pos (m * up e / down e))) (sym (floor_broken false m e b)) (W_is (pos (m * up e / down e)) (le_trans l C)))
    broken true b =
        let l = cut_less (m * up e) (down e) c b most in
        (negsuc (m * up e / down e), l, subst (λ (x : Float). Is x (negsuc (m * up e / down e))) (sym (floor_broken true m e b)) (W_is (negsuc (m * up e / down e)) (le_trans l C)))

-- ---- a number above -1
below_one : (m : ℕ) (e : ℤ) → Above (fin true m e) → m * up e < down e
unfolding lt
below_one m e h = simp (mul-one, one-mul) at (ltb→lt (m * up e * 1) (1 * 1 * down e) h)

-- its floor is c - 1, for a natural number c
less_one : (x : Float) (q : ℕ) → Is x (pos q) → Is x (pos (q + 1) -ℤ pos 1)
less_one x q h =
    let e : q + 1 - 1 ≡ q = omega arith in
    subst (λ (z : ℤ). Is x z) (diff_pos (q + 1) 1 (omega arith)) (subst (λ (j : ℕ). Is x (pos j)) (sym e) h)

pub floor_above : (x : Float) {k : ℕ} → k ≤ 53 → Within k x → Above x → (c : ℕ) × (c ≤ 2 ^ k + 1) × Is (floor_f x) (pos c -ℤ pos 1)
floor_above nan K w h = absurd w.bound
floor_above (inf s) K w h = absurd w.bound
floor_above (fin false m e) {k} K w h =
    let r = floor_between (fin false m e) (2 ^ k) (pow_mono {j = 53} K) w.bound in
    (r.0 + 1, omega (arith, r.1), less_one (floor_f (fin false m e)) r.0 r.2)
floor_above (fin true m e) {k} K w h =
    let q : m * up e / down e ≡ 0 = div-eq_of_lt (below_one m e h) in
    dite (ℕ_discrete (m * up e % down e) 0)
    (λ z. (
      1,
      omega arith,
      subst (λ (x : Float). Is x (pos 0)) (sym (floor_whole true m e z)) (record { sign = true; size = m * up e / down e; value = whole_val true m e z; number = ap (λ (j : ℕ). signed true j) q }),
    ))
    (λ b. (0, zero-le, subst (λ (x : Float). Is x (negsuc 0)) (sym (floor_broken true m e b ∙ ap (λ (j : ℕ). W (negsuc j)) q)) (W_is (negsuc 0) (lit≤ tt))))

-- a half more stays above -1
not_negative : (y : Float) → HasSign false y → Above y
unfolding lt
not_negative nan s = s
not_negative (inf true) s = true≢false s
not_negative (inf false) s = tt
not_negative (fin true m e) s = absurd (true≢false s)
not_negative (fin false m e) s = lt→ltb 0 (1 * 1 * down e + m * up e * 1) (lt_of_lt_of_le (down_pos e) (most (down e) (m * up e)))
  where
    most : (d n : ℕ) → d ≤ 1 * 1 * d + n * 1
    most d n = omega arith

at_most_half : (y : Float) → AtMost y 1 2 → Above y
unfolding lt
at_most_half nan h = h
at_most_half (inf s) h = absurd h
at_most_half (fin true m e) h = lt→ltb (m * up e * 1) (1 * 1 * down e) (small (m * up e) (down e) h (down_pos e))
  where
    small : (n d : ℕ) → n * 2 ≤ 1 * d → 0 < d → n * 1 < 1 * 1 * d
    small n d h p = omega arith
at_most_half (fin false m e) h = not_negative (fin false m e) refl

pub half_above : (x : Float) {k : ℕ} → Within k x → Above x → Above (x ⊕ half)
unfolding add sum
half_above nan w h = absurd w.bound
half_above (inf s) w h = absurd w.bound
half_above (fin false m e) w h = not_negative (round binary64 false (m * up e * 2 + 1 * down e) (down e * 2)) (round_signed binary64 false (m * up e * 2 + 1 * down e) (down e * 2))
half_above (fin true m e) w h = go (ltb (m * up e * 2) (1 * down e))
  where
    room : (n d : ℕ) → n < d → (n * 2 - 1 * d) * 2 ≤ 1 * (d * 2)
    room n d l = omega arith

    go : (t : Bool) → Above (cond t (round binary64 false (1 * down e - m * up e * 2) (down e * 2)) (round binary64 (true && ltb (1 * down e) (m * up e * 2)) (m * up e * 2 - 1 * down e) (down e * 2)))
    go true = not_negative (round binary64 false (1 * down e - m * up e * 2) (down e * 2)) (round_signed binary64 false (1 * down e - m * up e * 2) (down e * 2))
    go false =
        at_most_half (round binary64 (true && ltb (1 * down e) (m * up e * 2)) (m * up e * 2 - 1 * down e) (down e * 2))
        (round_at_most binary64 (true && ltb (1 * down e) (m * up e * 2)) (m * up e * 2 - 1 * down e) (down e * 2) 1 2 (mul-pos (down_pos e) (zero-lt-suc 1)) (zero-lt-suc 1) (room (m * up e) (down e) (below_one m e h)) (dyadic false 1 1 (lit< tt) (lit≤ tt)))

-- ---- the floor of a quotient by a whole number b: its size is at most that of the dividend's bound, by b, and 1 more
pub floor_quotient : (x : Float) {p : Float} {k b : ℕ} → k ≤ 52 → Within k x → Is p (pos b) → 0 < b → (z : ℤ) × (nat_abs z ≤ suc (2 ^ k / b)) × Is (floor_f (x ⊘ p)) z
floor_quotient nan K w h B = absurd w.bound
floor_quotient (inf s) K w h B = absurd w.bound
floor_quotient (fin s m e) {p} {k} {b} K w h B =
    let c = suc (2 ^ k / b) in
    let C : c ≤ 2 ^ 53 = le_trans (suc-le-suc (le_trans (div-le_self (2 ^ k) b) (pow_mono {j = 52} K))) (lit≤ tt) in
    floor_most (fin s m e ⊘ p) c C
    (subst (λ (y : Float). AtMost y c 1) (sym (div_val binary64 (fin s m e) p s false (m * up e) (down e) b 1 (down_pos e) (zero-lt-suc 0) B (refl, refl) (is_value h B)))
    (round_at_most binary64 (unlike s false) (m * up e * 1) (b * down e) c 1 (mul-pos B (down_pos e)) (zero-lt-suc 0) (reach (m * up e) (2 ^ k) (down e) c b w.bound ((div-lt_iff_lt-mul B).0 (le_refl c))) (round_whole binary64 false c C)))
  where
    reach : (n P d c b : ℕ) → n ≤ P * d → P < c * b → n * 1 * 1 ≤ c * (b * d)
    reach n P d c b h l = le_trans (le_of_eq (mul-one (n * 1) ∙ mul-one n)) (le_trans h (le_trans (mul-le-mul_right d (le_of_lt l)) (le_of_eq (mul_assoc c b d))))

-- ---- a number less itself is 0.0
round_nothing : (n c : ℕ) → n ≡ 0 → 0 < c → round binary64 false n c ≡ fin false 0 (pos 0)
round_nothing n c e C = ap (λ (k : ℕ). round binary64 false k c) e ∙ round_same binary64 false 0 c 0 1 C (zero-lt-suc 0) (sym (zero-mul c)) ∙ (unfold round in refl)

none : (a : ℕ) → a - a ≡ 0
none a = omega arith

sum_nothing : (s : Bool) (a c : ℕ) → 0 < c → sum binary64 s a (not s) a c ≡ fin false 0 (pos 0)
unfolding sum
sum_nothing true a c C = rw (le-ltb a a (le_refl a)) (round_nothing (a - a) c (none a) C)
sum_nothing false a c C = rw (le-ltb a a (le_refl a)) (round_nothing (a - a) c (none a) C)

pub sub_self : (x : Float) → T (finite x) → x ⊖ x ≡ fin false 0 (pos 0)
sub_self nan t = absurd t
sub_self (inf s) t = absurd t
sub_self (fin s m e) t =
    sub_val binary64 (fin s m e) (fin s m e) s s (m * up e) (down e) (m * up e) (down e) (down_pos e) (down_pos e) (refl, refl) (refl, refl)
    ∙ sum_nothing s (m * up e * down e) (down e * down e) (mul-pos (down_pos e) (down_pos e))
