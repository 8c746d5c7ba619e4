-- Being the same number carries over from one float to the next, and so does what refusal 8 asks of a voxel.
use Prim.Native.Nat.{ℕ, ◌*◌, ◌^◌, ◌≤◌, ◌<◌}
use native.Mathlib.Nat.{le_trans, le_of_eq, zero-mul, mul_right_comm, mul-le-mul_right, le_of_mul-le-mul_right}
use native.Mathlib.Omega.{arith}
use mathlib.Core.Path.{◌≡◌, sym, ap, ◌∙◌}
use mathlib.Core.Logic.{inl, inr}
use mathlib.Core.Bool.{Bool, true, false, not, ◌&&◌, ◌||◌, beq}
use lib.IntN.{ℤ}
use lib.Dec.{T, eqb, eqb→eq}
use lib.Ieee.{Float, nan, inf, fin, up, down, neg, of_int, eq, le}
use lib.Ieee.Fits.{down_pos, and_i, and_l, and_r, eq→eqb}
use Rattle.exact.specs.Rounded.{num}
use Rattle.exact.specs.Within.{Within}
use Rattle.exact.specs.Same.{Same}
use Rattle.exact.proofs.Value.{is_true}
use Rattle.exact.proofs.Tests.{or_split, or_l, or_r}
use Rattle.exact.proofs.Unique.{meet}
use Rattle.exact.proofs.Floors.{tests_of_bounded}
use Rattle.exact.proofs.Withins.{within_of_tests}
use Rattle.request.specs.Conditions.{wild}
use Rattle.request.proofs.Requests.{not_both}

-- ---- two finite floats: their sizes, each by the other's denominator, and their signs
module _ (s : Bool) (m : ℕ) (e : ℤ) (t : Bool) (n : ℕ) (d : ℤ) (h : Same (fin s m e) (fin t n d)) where
  sizes : m * up e * down d ≡ n * up d * down e
  unfolding eq
  sizes = eqb→eq (m * up e * down d) (n * up d * down e) (and_l (eqb (m * up e * down d) (n * up d * down e)) (beq s t || eqb (m * up e * down d) 0) h.equal)

  signs : T (beq s t || eqb (m * up e * down d) 0)
  unfolding eq
  signs = and_r (eqb (m * up e * down d) (n * up d * down e)) (beq s t || eqb (m * up e * down d) 0) h.equal

chain : (s t u : Bool) (a b c : ℕ) → T (beq s t || eqb a 0) → T (beq t u || eqb b 0) → (a ≡ 0 → c ≡ 0) → (b ≡ 0 → c ≡ 0) → T (beq s u || eqb c 0)
chain s t u a b c p q f g = elim (or_split (beq s t) (eqb a 0) p) [
  | inl e ↦ elim (or_split (beq t u) (eqb b 0) q) [ inl k ↦ or_l (beq s u) (eqb c 0) (alike s t u e k) | inr z ↦ or_r (beq s u) (eqb c 0) (eq→eqb (g (eqb→eq b 0 z))) ]
  | inr z ↦ or_r (beq s u) (eqb c 0) (eq→eqb (f (eqb→eq a 0 z)))
]
  where
    alike : (s t u : Bool) → T (beq s t) → T (beq t u) → T (beq s u)
    alike true true u p q = q
    alike false false u p q = q
    alike true false u p q = absurd p
    alike false true u p q = absurd p

nothing : (a b c : ℕ) → 0 < b → a * b ≡ 0 → a * c ≡ 0
nothing a b c l z =
    let none : a ≤ 0 = le_of_mul-le-mul_right (le_of_eq (z ∙ sym (zero-mul b))) l in
    ap (λ (k : ℕ). k * c) (omega arith) ∙ zero-mul c

pub same_trans : (x y z : Float) → Same x y → Same y z → Same x z
unfolding eq
same_trans nan y z p q = absurd p.finite_l
same_trans (inf s) y z p q = absurd p.finite_l
same_trans (fin s m e) nan z p q = absurd p.finite_r
same_trans (fin s m e) (inf t) z p q = absurd p.finite_r
same_trans (fin s m e) (fin t n d) nan p q = absurd q.finite_r
same_trans (fin s m e) (fin t n d) (inf u) p q = absurd q.finite_r
same_trans (fin s m e) (fin t n d) (fin u k g) p q =
    let a = sizes s m e t n d p in
    let b = sizes t n d u k g q in
    let left = nothing (m * up e) (down d) (down g) (down_pos d) in
    record {
      finite_l = p.finite_l;
      finite_r = q.finite_r;
      equal =
          and_i (eqb (m * up e * down g) (k * up g * down e)) (beq s u || eqb (m * up e * down g) 0) (eq→eqb (meet (m * up e) (k * up g) (down e) (down g) (n * up d) (down d) (down_pos d) a (sym b)))
          (chain s t u (m * up e * down d) (n * up d * down g) (m * up e * down g) (signs s m e t n d p) (signs t n d u k g q) left (λ z. left (a ∙ nothing (n * up d) (down g) (down e) (down_pos g) z)));
    }

-- ---- a bound on one is a bound on the other
within_same : {k : ℕ} (x y : Float) → Same x y → Within k y → Within k x
within_same nan y p w = absurd p.finite_l
within_same (inf s) y p w = absurd p.finite_l
within_same (fin s m e) nan p w = absurd p.finite_r
within_same (fin s m e) (inf t) p w = absurd p.finite_r
within_same {k} (fin s m e) (fin t n d) p w = record { bound = le_of_mul-le-mul_right (le_trans (le_of_eq (sizes s m e t n d p)) (le_trans (mul-le-mul_right (down e) w.bound) (le_of_eq (mul_right_comm (2 ^ k) (down d) (down e))))) (down_pos d) }

pub tame_same : (x y : Float) → Same x y → wild y ≡ false → wild x ≡ false
unfolding of_int neg
tame_same x y p e =
    let h = not_both (le (neg (num (2 ^ 100))) y) (le y (num (2 ^ 100))) e in
    let w = tests_of_bounded 100 x (within_same x y p (within_of_tests {k = 100} y h.0 h.1)).bound in
    λ i. not (is_true (le (neg (num (2 ^ 100))) x) w.0 i && is_true (le x (num (2 ^ 100))) w.1 i)
