-- Each neighbour of a kept point lies inside its axis: Mirror and the clamp bring every whole number inside, and Reflect fails only at -4L and below, while a kept point's neighbours are -3 at least.
use Rattle.std.proofs.Common.{◌≡◌, ℕ, zero, suc, ◌+◌, ◌-◌, ◌*◌, ◌/◌, ◌%◌, ◌^◌, ◌<◌, ◌≤◌, Bool, true, false, cond, eqb, ℤ, pos, ◌+ℤ◌, ◌-ℤ◌, neg_ℤ, nat_abs, sym, refl, ap, ◌∙◌, subst, inl, inr, true≢false, le_trans, le_of_eq, mul-le-mul, arith, lit≤, leb-false}
use lib.IntN.{+ℤ_assoc, +ℤ_comm, neg_ℤ-+ℤ}
use lib.Signed.{lt_z}
use lib.Ieee.{Float, lt, le}
use Rattle.exact.specs.Rounded.{◌⊕◌, ◌⊖◌, num, half}
use Rattle.exact.specs.Whole.{Is}
use Rattle.exact.specs.Within.{Within}
use Rattle.exact.specs.Floor.{floor_f}
use Rattle.exact.proofs.Is.{diff_pos, diff_neg, add_is, sub_is, lt_is, le_is}
use Rattle.exact.proofs.Naturals.{nat_abs-neg, num_is}
use Rattle.exact.proofs.Withins.{within_mono, add_within}
use Rattle.exact.proofs.Casts.{to_unsigned_is, unsigned_asks}
use Rattle.exact.proofs.Above.{Above, floor_above, half_above}
use Rattle.std.proofs.lemmas.Bool.{or_parts}
use Rattle.border.specs.declared.BorderMode.{BorderMode}
use Rattle.border.specs.declared.BorderMode.TheVariants.{Constant, Mirror, Nearest, Reflect, Wrap, Replicate}
use Rattle.border.specs.Fold.{fold}
use Rattle.border.specs.Landing.{FarEven, OnVoxel, Lands}
use Rattle.border.proofs.Landing.{sides, not_far, fold_lands}
use Rattle.axis.specs.Weights.{base}
use Rattle.axis.specs.Neighbours.{first_neighbour, outside, spline_mode, neighbour, neighbour_index}
use Rattle.axis.specs.Bookkeeping.{Indexes}

-- ---- differences of natural numbers, as integers
minus_minus : (a b c : ℕ) → pos a -ℤ pos b -ℤ pos c ≡ pos a -ℤ pos (b + c)
minus_minus a b c = +ℤ_assoc (pos a) (neg_ℤ (pos b)) (neg_ℤ (pos c)) ∙ ap (λ (z : ℤ). pos a +ℤ z) (sym (neg_ℤ-+ℤ (pos b) (pos c)))

minus_plus : (a b c : ℕ) → pos a -ℤ pos b +ℤ pos c ≡ pos (a + c) -ℤ pos b
minus_plus a b c = +ℤ_assoc (pos a) (neg_ℤ (pos b)) (pos c) ∙ ap (λ (z : ℤ). pos a +ℤ z) (+ℤ_comm (neg_ℤ (pos b)) (pos c)) ∙ sym (+ℤ_assoc (pos a) (pos c) (neg_ℤ (pos b)))

size_minus : (a b : ℕ) → nat_abs (pos a -ℤ pos b) ≤ a + b
size_minus a b = elim (sides a b) [
  | inl l ↦ subst (λ (z : ℤ). nat_abs z ≤ a + b) (diff_neg a b l) (le_trans (le_of_eq (nat_abs-neg (b - a))) (omega arith))
  | inr l ↦ subst (λ (z : ℤ). nat_abs z ≤ a + b) (diff_pos a b l) (omega arith)
]

-- ---- the first neighbour is c - m, with m one more than half the order
module _ (order : ℕ) (to : Float) (upto : order ≤ 5) (w : Within 30 to) (above : Above to) where
  base_above : (c : ℕ) × (c ≤ 2 ^ 31 + 1) × Is (base order to) (pos c -ℤ pos 1)
  unfolding base
  base_above = go (eqb (order % 2) 1)
    where
      go : (t : Bool) → (c : ℕ) × (c ≤ 2 ^ 31 + 1) × Is (floor_f (cond t to (to ⊕ half))) (pos c -ℤ pos 1)
      go true = floor_above to (lit≤ tt) (within_mono {j = 30} {k = 31} (lit≤ tt) w) above
      go false = floor_above (to ⊕ half) (lit≤ tt) (add_within {k = 30} (lit≤ tt) w (record { bound = lit≤ tt })) (half_above to w above)

  first_is : (c : ℕ) × (c ≤ 2 ^ 31 + 1) × Is (first_neighbour order to) (pos c -ℤ pos (1 + order / 2))
  unfolding first_neighbour
  first_is =
      let b = base_above in
      let c = b.0 in
      let e : pos c -ℤ pos 1 -ℤ pos (order / 2) ≡ pos c -ℤ pos (1 + order / 2) = minus_minus c 1 (order / 2) in (
        c,
        b.1,
        subst (λ (z : ℤ). Is (base order to ⊖ num (order / 2)) z) e (sub_is b.2 (num_is (order / 2) (omega arith)) (subst (λ (z : ℤ). nat_abs z ≤ 2 ^ 53) (sym e) (le_trans (size_minus c (1 + order / 2)) (omega (arith, b.1))))),
      )

-- ---- a neighbour: the number c + k - m, where m is 3 at most
module _ (first : Float) (c m : ℕ) (most : c ≤ 2 ^ 31 + 1) (small : m ≤ 3) (is : Is first (pos c -ℤ pos m)) where
  nth_is : (k : ℕ) → k ≤ 5 → Is (first ⊕ num k) (pos (c + k) -ℤ pos m)
  nth_is k l =
      let e : pos c -ℤ pos m +ℤ pos k ≡ pos (c + k) -ℤ pos m = minus_plus c m k in
      subst (λ (z : ℤ). Is (first ⊕ num k) z) e (add_is is (num_is k (omega arith)) (subst (λ (z : ℤ). nat_abs z ≤ 2 ^ 53) (sym e) (le_trans (size_minus (c + k) m) (omega arith))))

  -- no neighbour is as far as Reflect's departures
  near : (k L : ℕ) → 2 ≤ L → FarEven L (pos (c + k) -ℤ pos m) → ⊥
  near k L l f = elim (sides (c + k) m) [
    | inl b ↦
        let e : m - (c + k) ≡ 2 * L * f.k = sym (nat_abs-neg (m - (c + k))) ∙ ap nat_abs (diff_neg (c + k) m b ∙ f.even) ∙ nat_abs-neg (2 * L * f.k) in
        let four : 4 ≤ 2 * L = omega arith in
        let big : 4 * 2 ≤ 2 * L * f.k = mul-le-mul four f.far in
        omega arith
    | inr b ↦ not_far (c + k - m) L l (subst (λ (z : ℤ). FarEven L z) (sym (diff_pos (c + k) m b)) f)
  ]

  on_voxel : (mode : BorderMode) {L : ℕ} {n : ℤ} {r : Float} → (FarEven L n → ⊥) → Lands (spline_mode mode) L n r → OnVoxel (spline_mode mode) L n r
  on_voxel (Constant fill) far l = l.follows (λ z. z)
  on_voxel Mirror far l = l.follows (λ z. z)
  on_voxel Nearest far l = l.follows (λ z. z)
  on_voxel Reflect far l = l.follows far
  on_voxel Wrap far l = l.follows (λ z. z)
  on_voxel Replicate far l = l.follows (λ z. z)

  folded_inside : (mode : BorderMode) (k L : ℕ) → k ≤ 5 → 2 ≤ L → L ≤ 4120 → (i : ℕ) × (i < L) × Is (fold (spline_mode mode) (first ⊕ num k) (num L)) (pos i)
  folded_inside mode k L l two top =
      let v = on_voxel mode (near k L two) (fold_lands (spline_mode mode) (pos (c + k) -ℤ pos m) L (nth_is k l) (num_is L (omega arith)) two top (le_trans (size_minus (c + k) m) (omega arith))) in
      (v.i, v.stands.voxel, v.is)

  -- where none lies outside, each is inside as it stands
  plain_inside : (order k L : ℕ) → order ≤ 5 → k ≤ order → L ≤ 4120 → lt first (num 0) ≡ false → le (num L) (first ⊕ num order) ≡ false → (i : ℕ) × (i < L) × Is (first ⊕ num k) (pos i)
  plain_inside order k L o l top p q = elim (sides c m) [
    | inl b ↦ absurd (true≢false (sym (below c m b) ∙ sym (lt_is is (num_is 0 (lit≤ tt))) ∙ p))
    | inr b ↦
        let e : (j : ℕ) → pos (c + j - m) ≡ pos (c + j) -ℤ pos m = λ j. diff_pos (c + j) m (omega arith) in
        let far : c + order - m < L = leb-false L (c + order - m) (sym (le_is (num_is L (omega arith)) (subst (λ (z : ℤ). Is (first ⊕ num order) z) (sym (e order)) (nth_is order o))) ∙ q) in
        (c + k - m, omega arith, subst (λ (z : ℤ). Is (first ⊕ num k) z) (sym (e k)) (nth_is k (le_trans l o)))
  ]
    where
      negative : (n : ℕ) → 0 < n → lt_z (neg_ℤ (pos n)) (pos 0) ≡ true
      negative zero h = absurd (native.Mathlib.Nat.lt_irrefl 0 h)
      negative (suc n) h = refl

      below : (c m : ℕ) → c < m → lt_z (pos c -ℤ pos m) (pos 0) ≡ true
      below c m b = ap (λ (z : ℤ). lt_z z (pos 0)) (sym (diff_neg c m b)) ∙ negative (m - c) (omega arith)

-- ---- before its fold a neighbour is a whole number
pub neighbour-whole : (order : ℕ) (to : Float) (k : ℕ) → order ≤ 5 → Within 30 to → Above to → k ≤ order → (z : ℤ) × Is (first_neighbour order to ⊕ num k) z
neighbour-whole order to k o w above l =
    let f = first_is order to o w above in
    (pos (f.0 + k) -ℤ pos (1 + order / 2), nth_is (first_neighbour order to) f.0 (1 + order / 2) f.1 (omega arith) f.2 k (le_trans l o))

-- where none lies outside, each is inside as it stands
pub neighbour_stands :
    (order L : ℕ) (to : Float) (k : ℕ) → order ≤ 5 → L ≤ 4120 → Within 30 to → Above to → k ≤ order → outside order L (first_neighbour order to) ≡ false → (i : ℕ) × (i < L) × Is (first_neighbour order to ⊕ num k) (pos i)
neighbour_stands order L to k o top w above l e =
    let f = first_is order to o w above in
    let first = first_neighbour order to in
    let within = or_parts (lt first (num 0)) (le (num L) (first ⊕ num order)) e in
    plain_inside first f.0 (1 + order / 2) f.1 (omega arith) f.2 order k L o l top within.0 within.1

-- ---- the theorem: on an axis of 2 voxels or more, and on any axis where none lies outside
pub neighbour_inside :
    (order : ℕ) (mode : BorderMode) (L : ℕ) (to : Float) (k : ℕ) → order ≤ 5 → (outside order L (first_neighbour order to) ≡ true → 2 ≤ L) → L ≤ 4120 → Within 30 to → Above to → k ≤ order →
    (i : ℕ) × (i < L) × Is (neighbour mode (outside order L (first_neighbour order to)) L (first_neighbour order to) k) (pos i)
unfolding neighbour
neighbour_inside order mode L to k o two top w above l =
    let f = first_is order to o w above in
    let first = first_neighbour order to in
    let small : 1 + order / 2 ≤ 3 = omega arith in
    go (outside order L first) two (or_parts (lt first (num 0)) (le (num L) (first ⊕ num order))) (λ more. folded_inside first f.0 (1 + order / 2) f.1 small f.2 mode k L (le_trans l o) more top)
    (λ p q. plain_inside first f.0 (1 + order / 2) f.1 small f.2 order k L o l top p q)
  where
    go : (t : Bool) {x y : Float} → (t ≡ true → 2 ≤ L) → (t ≡ false → (lt (first_neighbour order to) (num 0) ≡ false) × (le (num L) (first_neighbour order to ⊕ num order) ≡ false)) → (2 ≤ L → (i : ℕ) × (i < L) × Is x (pos i))
        → (lt (first_neighbour order to) (num 0) ≡ false → le (num L) (first_neighbour order to ⊕ num order) ≡ false → (i : ℕ) × (i < L) × Is y (pos i)) → (i : ℕ) × (i < L) × Is (cond t x y) (pos i)
    go true two s x y = x (two refl)
    go false two s x y = y (s refl).0 (s refl).1

pub index_inside : (order : ℕ) (mode : BorderMode) (L : ℕ) (to : Float) (k : ℕ) → order ≤ 5 → (outside order L (first_neighbour order to) ≡ true → 2 ≤ L) → L ≤ 4120 → Within 30 to → Above to → k ≤ order → neighbour_index mode (outside order L (first_neighbour order to)) L (first_neighbour order to) k < L
unfolding neighbour_index
index_inside order mode L to k o two top w above l =
    let n = neighbour_inside order mode L to k o two top w above l in
    subst (λ (i : ℕ). i < L) (sym (to_unsigned_is n.2 (le_trans (native.Mathlib.Nat.le_of_lt n.1) (le_trans top (lit≤ tt))))) n.1

-- what the cast to an index asks
pub index_asks : (order : ℕ) (mode : BorderMode) (L : ℕ) (to : Float) (k : ℕ) → order ≤ 5 → (outside order L (first_neighbour order to) ≡ true → 2 ≤ L) → L ≤ 4120 → Within 30 to → Above to → k ≤ order →
    Indexes (neighbour mode (outside order L (first_neighbour order to)) L (first_neighbour order to) k)
index_asks order mode L to k o two top w above l =
    let n = neighbour_inside order mode L to k o two top w above l in
    unsigned_asks n.2 (le_trans (native.Mathlib.Nat.le_of_lt n.1) (le_trans top (lit≤ tt)))
