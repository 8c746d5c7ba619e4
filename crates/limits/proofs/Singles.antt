-- Which axis is a single slice, and how many edge copies an axis has.
use Prim.Native.Nat.{ℕ, ◌≤◌}
use native.Mathlib.Omega.{arith}
use mathlib.Core.Path.{◌≡◌}
use mathlib.Core.Bool.{Bool, true, false, cond}
use lib.Dec.{lit≤}
use borrow.Author.Tests.{eq-eqb, ne_eqb, eqb-true, eqb-false}
use Rattle.limits.specs.Limits.{single, edge_of}

pub one_single : (n : ℕ) → n ≡ 1 → single n ≡ true
one_single n e = eq-eqb n 1 e

pub single_one : (n : ℕ) → single n ≡ true → n ≡ 1
single_one n e = eqb-true n 1 e

pub two_long : (n : ℕ) → 2 ≤ n → single n ≡ false
two_long n l = ne_eqb n 1 (λ e. omega arith)

pub long_two : (n : ℕ) → single n ≡ false → 1 ≤ n → 2 ≤ n
long_two n e l = let other = eqb-false n 1 e in omega arith

pub edge_single : (n : ℕ) → single n ≡ true → edge_of n ≡ 0
unfolding edge_of
edge_single n e = simp e

pub edge_long : (n : ℕ) → single n ≡ false → edge_of n ≡ 12
unfolding edge_of
edge_long n e = simp e

pub edge_most : (n : ℕ) → edge_of n ≤ 12
unfolding edge_of
edge_most n = go (single n)
  where
    go : (b : Bool) → cond b 0 12 ≤ 12
    go true = lit≤ tt
    go false = lit≤ tt
