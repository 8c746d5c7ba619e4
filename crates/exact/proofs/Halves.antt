-- A whole number and a half, rounded down, is that number.
use Rattle.std.proofs.Common.{◌≡◌, ℕ, zero, suc, ◌+◌, ◌*◌, ◌/◌, ◌^◌, ◌≤◌, Bool, true, false, pos, sym, refl, ap, ◌∙◌, subst, zero-lt-suc, mul-one, arith, lit≤}
use lib.Ieee.{Float, binary64, round, sum}
use Rattle.exact.specs.Rounded.{◌⊕◌, ◌⊘◌, num, half}
use Rattle.exact.specs.Whole.{Is}
use Rattle.exact.specs.Floor.{floor_f}
use Rattle.exact.proofs.Value.{add_val, div_val}
use Rattle.exact.proofs.Whole.{W_val}
use Rattle.exact.proofs.Is.{is_value}
use Rattle.exact.proofs.Naturals.{num_is}
use Rattle.exact.proofs.Weights.{zero_val}
use Rattle.exact.proofs.Modulo.{floor_div_is}

-- the sum is (2n + 1) / 2, rounded once; a zero may have either sign
half_more : (to : Float) (n : ℕ) → Is to (pos n) → to ⊕ half ≡ round binary64 false (n * 2 + 1) 2
unfolding sum
half_more to zero h = add_val binary64 to half h.sign false 0 1 1 2 (zero-lt-suc 0) (zero-lt-suc 1) (zero_val h) (refl, refl) ∙ go h.sign
  where
    go : (s : Bool) → sum binary64 s 0 false 1 2 ≡ round binary64 false 1 2
    go true = refl
    go false = refl
half_more to (suc n) h = add_val binary64 to half false false (suc n) 1 1 2 (zero-lt-suc 0) (zero-lt-suc 1) (is_value h (zero-lt-suc n)) (refl, refl)

module _ {to : Float} {n : ℕ} (h : Is to (pos n)) (small : n ≤ 2 ^ 20) where
  as_quotient : to ⊕ half ≡ num (n * 2 + 1) ⊘ num 2
  as_quotient =
      half_more to n h ∙ ap (λ (k : ℕ). round binary64 false k 2) (sym (mul-one (n * 2 + 1)))
      ∙ sym (div_val binary64 (num (n * 2 + 1)) (num 2) false false (n * 2 + 1) 1 2 1 (zero-lt-suc 0) (zero-lt-suc 0) (zero-lt-suc 1) (W_val (pos (n * 2 + 1)) (omega arith)) (W_val (pos 2) (lit≤ tt)))

  pub floor_half : Is (floor_f (to ⊕ half)) (pos n)
  floor_half =
      let e : (n * 2 + 1) / 2 ≡ n = omega arith in
      subst (λ (x : Float). Is (floor_f x) (pos n)) (sym as_quotient)
      (subst (λ (k : ℕ). Is (floor_f (num (n * 2 + 1) ⊘ num 2)) (pos k)) e (floor_div_is (num_is (n * 2 + 1) (omega arith)) (num_is 2 (lit≤ tt)) (omega arith) (zero-lt-suc 1) (lit≤ tt)))
