-- What is left of a whole coordinate once whole periods are taken from its size: the remainder, with the coordinate's sign.
use mathlib.Core.Path.{◌≡◌, subst}
use Prim.Native.Nat.{ℕ, ◌-◌, ◌*◌, ◌/◌, ◌%◌, ◌^◌, ◌≤◌, ◌<◌}
use native.Mathlib.Nat.{le_trans}
use native.Mathlib.Omega.{arith}
use lib.IntN.{pos, neg_ℤ}
use lib.Dec.{lit≤}
use lib.Ieee.{Float, neg}
use Rattle.exact.specs.Rounded.{◌⊘◌}
use Rattle.exact.specs.Whole.{Is}
use Rattle.exact.specs.Floor.{floor_f}
use Rattle.exact.proofs.Modulo.{floor_div_is, mod_is}
use Rattle.exact.proofs.Naturals.{times, plus_neg, negated}
use Rattle.border.specs.Fold.{under, over}
use Rattle.border.proofs.Periods.{parts}

module _ {idx period : Float} (a p : ℕ) (h : a ≤ 2 ^ 32) (P : 0 < p) (l : p ≤ 2 ^ 20) (i : Is period (pos p)) where
  pub over_is : Is idx (pos a) → Is (over period idx) (pos (a % p))
  over_is k = mod_is k i h P l

  pub quotient_is : Is idx (neg_ℤ (pos a)) → Is (floor_f (neg idx ⊘ period)) (pos (a / p))
  quotient_is k = floor_div_is (negated k) i h P l

  pub under_is : Is idx (neg_ℤ (pos a)) → Is (under period idx) (neg_ℤ (pos (a % p)))
  under_is k =
      let q : p * (a / p) ≤ a = omega (arith, parts a p) in
      let r : a - p * (a / p) ≡ a % p = omega (arith, parts a p) in
      subst (λ (m : ℕ). Is (under period idx) (neg_ℤ (pos m))) r (plus_neg (times i (quotient_is k) (le_trans q (le_trans h (lit≤ tt)))) k q (le_trans h (lit≤ tt)))
