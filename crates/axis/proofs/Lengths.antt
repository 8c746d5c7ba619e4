-- Zoom's output length is a natural number for every length and factor that refusals 3 and 4 let pass.
use Rattle.std.proofs.Common.{◌≡◌, ℕ, ◌*◌, ◌^◌, ◌≤◌, true, false, T, pos, sym, refl, subst, true≢false, le_trans, zero-lt-suc, arith, lit≤}
use lib.Ieee.{Float, nan, inf, fin, binary64, up, down, lt, le, of_int}
use lib.Ieee.Exact.{HasValue}
use lib.Ieee.Fits.{down_pos}
use Rattle.exact.specs.Rounded.{◌⊗◌, num}
use Rattle.exact.specs.Whole.{Is}
use Rattle.exact.specs.Within.{Within}
use Rattle.exact.specs.Round.{round_ties_even_f}
use Rattle.exact.proofs.Tests.{le_of_level}
use Rattle.exact.proofs.Value.{mul_val}
use Rattle.exact.proofs.Whole.{W_val}
use Rattle.exact.proofs.Bounds.{HasSign, round_signed}
use Rattle.exact.proofs.Withins.{W_within, mul_within}
use Rattle.exact.proofs.Ranges.{Between}
use Rattle.exact.proofs.Rounds.{round_between}
use Rattle.exact.proofs.Casts.{to_unsigned_is, unsigned_asks}
use Rattle.axis.specs.Length.{output_length}
use Rattle.axis.specs.Bookkeeping.{Zooms}

-- ---- a factor above 0 and up to 4,096
record Factor (f : Float) : Type 0 where
  numerator : ℕ
  denominator : ℕ
  some : 1 ≤ denominator
  value : HasValue f false numerator denominator
  within : Within 12 f

most : (n d : ℕ) → n * 1 ≤ 1 * 2 ^ 12 * d → n ≤ 2 ^ 12 * d
most n d h = omega arith

factor : (f : Float) → T (lt (num 0) f) → T (le f (num 4096)) → Factor f
unfolding lt le of_int
factor nan a m = absurd m
factor (inf true) a m = absurd a
factor (inf false) a m = absurd m
factor (fin true m e) a b = absurd a
factor (fin false m e) a b = record {
  numerator = m * up e;
  denominator = down e;
  some = down_pos e;
  value = (refl, refl);
  within = record { bound = most (m * up e) (down e) (le_of_level (m * up e * 1) (1 * 2 ^ 12 * down e) b) };
}

-- ---- the product is not negative, and at most 2 ^ 24
between_signed : (y : Float) {k : ℕ} → HasSign false y → Within k y → Between y (2 ^ k)
between_signed nan s w = w.bound
between_signed (inf t) s w = w.bound
between_signed (fin true m e) s w = absurd (true≢false s)
between_signed (fin false m e) s w = w.bound

product : (n : ℕ) (f : Float) → Zooms n f → Between (num n ⊗ f) (2 ^ 24)
product n f z =
    let g = factor f z.above z.most in
    let N : n ≤ 2 ^ 53 = le_trans z.short (lit≤ tt) in
    between_signed (num n ⊗ f)
    (subst (λ (y : Float). HasSign false y) (sym (mul_val binary64 (num n) f false false n 1 g.numerator g.denominator (zero-lt-suc 0) g.some (W_val (pos n) N) g.value))
    (round_signed binary64 false (n * g.numerator) (1 * g.denominator)))
    (mul_within {j = 12} {k = 12} (lit≤ tt) (W_within (pos n) 12 (lit≤ tt) z.short) g.within)

-- ---- so the rounded product is a natural number
pub rounded : (n : ℕ) (f : Float) → Zooms n f → (k : ℕ) × (k ≤ 2 ^ 24) × Is (round_ties_even_f (num n ⊗ f)) (pos k)
rounded n f z = round_between (num n ⊗ f) (2 ^ 24) (lit≤ tt) (product n f z)

pub length_asks : (n : ℕ) (f x : Float) → Zooms n f → x ≡ round_ties_even_f (num n ⊗ f) → T (lt (fin true 1 (pos 0)) x) × T (lt x (fin false 1 (pos 64)))
length_asks n f x z e =
    let r = rounded n f z in
    subst (λ (y : Float). T (lt (fin true 1 (pos 0)) y) × T (lt y (fin false 1 (pos 64)))) (sym e) (unsigned_asks r.2 (le_trans r.1 (lit≤ tt)))

-- the output length is that number
pub length_is : (n : ℕ) (f : Float) → Zooms n f → Is (round_ties_even_f (num n ⊗ f)) (pos (output_length n f))
unfolding output_length
length_is n f z =
    let r = rounded n f z in
    subst (λ (k : ℕ). Is (round_ties_even_f (num n ⊗ f)) (pos k)) (sym (to_unsigned_is r.2 (le_trans r.1 (lit≤ tt)))) r.2
