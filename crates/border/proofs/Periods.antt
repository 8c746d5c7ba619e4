-- When a coordinate ±a lies a whole number of periods away from a voxel i or its reflection -i, with the numbers in ℕ.
use mathlib.Core.Path.{◌≡◌, refl, sym, ap, ◌∙◌, subst}
use Prim.Native.Nat.{ℕ, zero, suc, ◌+◌, ◌-◌, ◌*◌, ◌/◌, ◌%◌, ◌≤◌}
use native.Mathlib.Nat.{mul-zero, mul-suc, mul_comm, mul-mod_right, div-add-mod'}
use native.Mathlib.Omega.{arith}
use lib.IntN.{ℤ, pos, negsuc, neg_ℤ, nat_abs, ◌+ℤ◌, ◌*ℤ◌, +ℤ_comm, +ℤ_idl, neg_ℤ-+ℤ, neg_ℤ-neg_ℤ}
use Rattle.exact.proofs.Is.{diff_pos}
use Rattle.border.specs.Manual.{Apart}

neg_multiple : (p : ℕ) (t : ℤ) → neg_ℤ (pos p *ℤ t) ≡ pos p *ℤ neg_ℤ t
neg_multiple p (pos zero) = ap (λ (k : ℕ). neg_ℤ (pos k)) (mul-zero p) ∙ ap pos (sym (mul-zero p))
neg_multiple p (pos (suc k)) = refl
neg_multiple p (negsuc k) = neg_ℤ-neg_ℤ (pos (p * suc k))

pub turned : {p : ℕ} {n m : ℤ} → Apart p n m → Apart p (neg_ℤ n) (neg_ℤ m)
turned {p} {m = m} h = record { times = neg_ℤ h.times; equal = ap neg_ℤ h.equal ∙ neg_ℤ-+ℤ m (pos p *ℤ h.times) ∙ ap (λ (z : ℤ). neg_ℤ m +ℤ z) (neg_multiple p h.times) }

-- ---- a coordinate a: the voxel i itself, and its reflection
pub up_own : (p a i q : ℕ) → a ≡ i + p * q → Apart p (pos a) (pos i)
up_own p a i q e = record { times = pos q; equal = ap pos e }

pub up_image : (p a i k : ℕ) → a + i ≡ p * k → Apart p (pos a) (neg_ℤ (pos i))
up_image p a i k e = record { times = pos k; equal = ap pos (less a i (p * k) e) ∙ diff_pos (p * k) i (most a i (p * k) e) ∙ +ℤ_comm (pos (p * k)) (neg_ℤ (pos i)) }
  where
    less : (a i m : ℕ) → a + i ≡ m → a ≡ m - i
    less a i m e = omega arith

    most : (a i m : ℕ) → a + i ≡ m → i ≤ m
    most a i m e = omega arith

-- ---- a coordinate -a
pub down_own : (p a i k : ℕ) → a + i ≡ p * k → Apart p (neg_ℤ (pos a)) (pos i)
down_own p a i k e = subst (λ (m : ℤ). Apart p (neg_ℤ (pos a)) m) (neg_ℤ-neg_ℤ (pos i)) (turned (up_image p a i k e))

pub down_image : (p a i q : ℕ) → a ≡ i + p * q → Apart p (neg_ℤ (pos a)) (neg_ℤ (pos i))
down_image p a i q e = turned (up_own p a i q e)

-- ---- a number by its quotient and its remainder, and the next multiple
pub parts : (a p : ℕ) → a ≡ a % p + p * (a / p)
parts a p = omega (arith, div-add-mod' a p, mul_comm p (a / p))

pub next_multiple : (a r p q : ℕ) → a ≡ r + p * q → r ≤ p → a + (p - r) ≡ p * suc q
next_multiple a r p q e h = omega (arith, mul-suc p q)

pub whole_remainder : (p a k : ℕ) → a ≡ p * k → a % p ≡ 0
whole_remainder p a k e = ap (λ (x : ℕ). x % p) e ∙ mul-mod_right p k

-- ---- what lies a whole number of periods away from 0 is a multiple
pub size_multiple : (p : ℕ) (t : ℤ) → nat_abs (pos p *ℤ t) ≡ p * nat_abs t
size_multiple p (pos k) = refl
size_multiple p (negsuc k) = go (p * suc k)
  where
    go : (m : ℕ) → nat_abs (neg_ℤ (pos m)) ≡ m
    go zero = refl
    go (suc m) = refl

pub multiple : {p : ℕ} {n : ℤ} (h : Apart p n (pos 0)) → nat_abs n ≡ p * nat_abs h.times
multiple {p} h = ap nat_abs (h.equal ∙ +ℤ_idl (pos p *ℤ h.times)) ∙ size_multiple p h.times
