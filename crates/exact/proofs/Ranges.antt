-- A float between 0 and a whole number n, as after a clamp: its floor is a whole number from 0 to n, and so is its cast to an integer. So it is an index.
-- Assumes nothing.
use Rattle.std.proofs.Common.{◌≡◌, ℕ, ◌-◌, ◌*◌, ◌/◌, ◌%◌, ◌^◌, ◌≤◌, min, Bool, true, false, ◌||◌, T, eqb, ℤ, pos, sym, refl, ◌∙◌, subst, zero-le, le_trans, le_of_eq, zero-lt-suc, zero-mul, mul-one, arith, eqb→eq}
use mathlib.Core.Logic.{dite}
use native.Mathlib.Decide.{ℕ_discrete}
use lib.Ieee.{Float, nan, inf, fin, up, down, below, level, le}
use lib.Ieee.Exact.{HasValue}
use lib.Ieee.Fits.{down_pos, and_l}
use Rattle.exact.specs.Whole.{W, Is}
use Rattle.exact.specs.Floor.{floor_f}
use Rattle.exact.proofs.Tests.{le_of_level}
use Rattle.exact.proofs.Value.{le_val}
use Rattle.exact.proofs.Whole.{W_val}
use Rattle.exact.proofs.Is.{W_is}
use Rattle.exact.proofs.Floors.{floor_whole, floor_broken, whole-kept, cut_at_most}
use Rattle.exact.proofs.Quotients.{whole_val}

-- x is finite, at most n in size, and not below 0: it is a zero where its sign is negative
abbrev pub Between : Float → ℕ → Type 0
Between nan n = ⊥
Between (inf s) n = ⊥
Between (fin true m e) n = m * up e ≡ 0
Between (fin false m e) n = m * up e ≤ n * down e

inf_low : (t : Bool) (y : Float) (s : Bool) (n : ℕ) → HasValue y s n 1 → T (le (inf t) y) → t ≡ true
unfolding le
inf_low true y s n v h = refl
inf_low false nan s n v h = absurd v
inf_low false (inf u) s n v h = absurd v
inf_low false (fin u m e) s n v h = absurd h

inf_high : (y : Float) (s : Bool) (n : ℕ) → HasValue y s n 1 → T (le y (inf true)) → ⊥
unfolding le
inf_high nan s n v h = v
inf_high (inf u) s n v h = v
inf_high (fin u m e) s n v h = h

le_nan : (y : Float) (s : Bool) (n : ℕ) → HasValue y s n 1 → T (le y nan) → ⊥
unfolding le
le_nan nan s n v h = v
le_nan (inf u) s n v h = v
le_nan (fin u m e) s n v h = h

-- a negative sign, and not below 0: a zero
nought : (m : ℕ) (e : ℤ) → T (level false (0 * down e) true (m * up e * 1)) → m * up e ≡ 0
nought m e t = sym (mul-one (m * up e)) ∙ sym (eqb→eq (0 * down e) (m * up e * 1) (and_l (eqb (0 * down e) (m * up e * 1)) (eqb (0 * down e) 0) t)) ∙ zero-mul (down e)

-- by any two floats that are the numbers 0 and n
pub between : (x : Float) (n : ℕ) → n ≤ 2 ^ 53 → T (le (W (pos 0)) x) → T (le x (W (pos n))) → Between x n
between nan n N h g = le_nan (W (pos 0)) false 0 (W_val (pos 0) zero-le) h
between (inf true) n N h g = inf_high (W (pos 0)) false 0 (W_val (pos 0) zero-le) h
between (inf false) n N h g = mathlib.Core.Bool.false≢true (inf_low false (W (pos n)) false n (W_val (pos n) N) g)
between (fin true m e) n N h g =
    nought m e (subst T (le_val (W (pos 0)) (fin true m e) false true 0 1 (m * up e) (down e) (zero-lt-suc 0) (down_pos e) (W_val (pos 0) zero-le) (refl, refl)) h)
between (fin false m e) n N h g =
    let t : T (below false (m * up e * 1) false (n * down e) || level false (m * up e * 1) false (n * down e)) = subst T (le_val (fin false m e) (W (pos n)) false false (m * up e) (down e) n 1 (down_pos e) (zero-lt-suc 0) (refl, refl) (W_val (pos n) N)) g in
    le_trans (le_of_eq (sym (mul-one (m * up e)))) (le_of_level (m * up e * 1) (n * down e) t)

-- ---- what leaves each whole number as it is, and makes a natural number up to n of each other one
pub natural_between : (F : Float → Float) → ((s : Bool) (m : ℕ) (e : ℤ) → m * up e % down e ≡ 0 → F (fin s m e) ≡ fin s m e) → (x : Float) (n : ℕ)
    → ((m : ℕ) (e : ℤ) → (m * up e % down e ≡ 0 → ⊥) → m * up e ≤ n * down e → (k : ℕ) × (k ≤ n) × Is (F (fin false m e)) (pos k))
    → Between x n → (k : ℕ) × (k ≤ n) × Is (F x) (pos k)
natural_between F keep nan n broken h = absurd h
natural_between F keep (inf s) n broken h = absurd h
natural_between F keep (fin true m e) n broken h =
    let z : Is (fin true m e) (pos 0) = record { sign = true; size = 0; value = (refl, mul-one (m * up e) ∙ h ∙ sym (zero-mul (down e))); number = refl } in
    (0, zero-le, subst (λ (y : Float). Is y (pos 0)) (sym (whole-kept F keep z)) z)
natural_between F keep (fin false m e) n broken h =
    dite (ℕ_discrete (m * up e % down e) 0)
    (λ z. (
      m * up e / down e,
      cut_at_most (m * up e) (down e) n (down_pos e) h,
      subst (λ (y : Float). Is y (pos (m * up e / down e))) (sym (keep false m e z)) (record { sign = false; size = m * up e / down e; value = whole_val false m e z; number = refl }),
    ))
    (λ b. broken m e b h)

-- ---- its floor
pub floor_between : (x : Float) (n : ℕ) → n ≤ 2 ^ 53 → Between x n → (k : ℕ) × (k ≤ n) × Is (floor_f x) (pos k)
floor_between x n N = natural_between floor_f floor_whole x n broken
  where
    broken : (m : ℕ) (e : ℤ) → (m * up e % down e ≡ 0 → ⊥) → m * up e ≤ n * down e → (k : ℕ) × (k ≤ n) × Is (floor_f (fin false m e)) (pos k)
    broken m e b h =
        let l : m * up e / down e ≤ n = cut_at_most (m * up e) (down e) n (down_pos e) h in
        (m * up e / down e, l, subst (λ (y : Float). Is y (pos (m * up e / down e))) (sym (floor_broken false m e b)) (W_is (pos (m * up e / down e)) (le_trans l N)))

-- ---- its cast by `truncating_f64_to_u64`
least : (c n : ℕ) → c ≤ n → min c (2 ^ 64 - 1) ≤ n
least c n h = omega arith
