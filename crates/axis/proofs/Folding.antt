-- Whether a neighbour of an output index was folded: by what the code has at hand, in whole numbers, and at orders 0 and 1.
use Rattle.std.proofs.Common.{◌≡◌, ℕ, ◌+◌, ◌-◌, ◌*◌, ◌<◌, ◌≤◌, Bool, true, false, ◌&&◌, ◌||◌, ltb, leb, List, get_or, ℤ, pos, negsuc, sym, refl, ap, ◌∙◌, subst, true≢false, zero-le, zero-add, arith, lit≤, ltb-false, le-ltb, leb-false}
use native.Mathlib.Nat.{sub-zero}
use lib.Ieee.{Float, nan, lt, le}
use borrow.Author.Tests.{lt-leb}
use Rattle.exact.specs.Rounded.{◌⊕◌, ◌⊖◌, num}
use Rattle.exact.specs.Whole.{Is}
use Rattle.exact.specs.Floor.{floor_f}
use Rattle.exact.proofs.Is.{lt_is, le_is}
use Rattle.exact.proofs.Naturals.{num_is, plus, minus}
use Rattle.lists.specs.Some.{some_below}
use Rattle.lists.proofs.Somes.{some_none, none-at, some_found}
use Rattle.std.proofs.lemmas.Bool.{or_parts}
use Rattle.border.specs.declared.BorderMode.{BorderMode}
use Rattle.axis.specs.declared.coordinate.Axis.{Axis}
use Rattle.axis.specs.Coordinate.{settled, kept}
use Rattle.axis.specs.Weights.{order_on, base, build_splines}
use Rattle.axis.specs.Neighbours.{first_neighbour, outside}
use Rattle.axis.specs.Point.{beside_at}
use Rattle.axis.specs.Folded.{weighs, beyond, weight_at, unfolded_at, folded_by, some_folded, folded_at, InAxis, AllInside, SomeOutside}
use Rattle.axis.specs.Bookkeeping.{Reached, Kept}
use Rattle.axis.proofs.Inside.{neighbour-whole, neighbour_stands}
use Rattle.axis.proofs.Points.{above_kept, long_order, reached_kept}

-- ---- one neighbour
module _ (a : Axis) (x w : Float) where
  pub weightless : weighs w ≡ false → false ≡ (weighs w && beyond a x)
  weightless e = simp e

  pub before_axis : weighs w ≡ true → lt x a.pad ≡ true → true ≡ (weighs w && beyond a x)
  before_axis e b = simp (e, b)

  pub behind_axis : weighs w ≡ true → lt x a.pad ≡ false → {l : Float} → l ≡ num a.len → le (l ⊖ a.pad) x ≡ (weighs w && beyond a x)
  behind_axis e b {l} n = ap (λ (y : Float). le (y ⊖ a.pad) x) n ∙ simp (e, b)

-- ---- all of them
module _ (order : ℕ) (mode : BorderMode) (a : Axis) (i : ℕ) {to first : Float} {weight : List Float} (t : to ≡ settled mode a i) (w : weight ≡ build_splines order to) (f : first ≡ first_neighbour order to) where
  by_hand : (k : ℕ) → (weighs (get_or weight k nan) && beyond a (first ⊕ num k)) ≡ folded_by order mode a i k
  unfolding weight_at unfolded_at
  by_hand k = λ j. weighs (get_or ((w ∙ ap (build_splines order) t) j) k nan) && beyond a ((f ∙ ap (first_neighbour order) t) j ⊕ num k)

  pub some_by_hand : some_below (λ k. weighs (get_or weight k nan) && beyond a (first ⊕ num k)) (order + 1) ≡ some_folded order mode a i
  some_by_hand = λ j. some_below (λ k. by_hand k j) (order + 1)

-- ---- a neighbour as a whole number
-- an axis of `length` voxels, with a pad on both sides
pub record Padded (a : Axis) (length pad : ℕ) : Type 0 where
  pub long : a.len ≡ length + 2 * pad
  pub stands : a.pad ≡ num pad
  pub short : a.len ≤ 4120

module _ {a : Axis} {length pad : ℕ} (b : Padded a length pad) where
  pub pad_is : Is a.pad (pos pad)
  pad_is = subst (λ (x : Float). Is x (pos pad)) (sym b.stands) (num_is pad (omega (arith, b.long, b.short)))

  end_is : Is (num a.len ⊖ a.pad) (pos (length + pad))
  end_is =
      let l = b.long in
      let e : a.len - pad ≡ length + pad = omega arith in
      subst (λ (n : ℕ). Is (num a.len ⊖ a.pad) (pos n)) e (minus (num_is a.len (omega (arith, b.short))) pad_is (omega arith) (omega (arith, b.short)))

  pub beyond-at : {x : Float} {n : ℕ} → Is x (pos n) → beyond a x ≡ (ltb n pad || leb (length + pad) n)
  beyond-at h = λ t. lt_is h pad_is t || le_is end_is h t

  pub in_axis : {x : Float} → InAxis length pad x → beyond a x ≡ false
  in_axis (j, l, h) = beyond-at h ∙ (λ t. le-ltb (pad + j) pad (omega arith) t || lt-leb (length + pad) (pad + j) (omega arith) t)

  pub not_beyond : {x : Float} (z : ℤ) → Is x z → beyond a x ≡ false → InAxis length pad x
  not_beyond {x} (pos n) h e =
      let o = or_parts (ltb n pad) (leb (length + pad) n) (sym (beyond-at h) ∙ e) in
      let low = ltb-false n pad o.0 in
      let high = leb-false (length + pad) n o.1 in
      let k : n ≡ pad + (n - pad) = omega arith in
      (n - pad, omega arith, subst (λ (m : ℕ). Is x (pos m)) k h)
  not_beyond {x} (negsuc c) h e = absurd (true≢false (sym (lt_is h pad_is) ∙ (or_parts (lt x a.pad) (le (num a.len ⊖ a.pad) x) e).0))

-- ---- the neighbours of an output index
and_true : (p q : Bool) → (p && q) ≡ true → (p ≡ true) × (q ≡ true)
and_true true q e = (refl, e)
and_true false q e = absurd (true≢false (sym e))

module _ (order : ℕ) (mode : BorderMode) {a : Axis} {length pad : ℕ} (b : Padded a length pad) (i : ℕ) where
  abbrev o : ℕ
  o = order_on a.len order

  pub folded_outside : folded_at order mode a i ≡ true → SomeOutside (order_on a.len order) mode length pad a i
  unfolding folded_at
  folded_outside e =
      let f = some_found (folded_by o mode a i) (o + 1) e in
      let both = and_true (weighs (weight_at o mode a i f.0)) (beyond a (unfolded_at o mode a i f.0)) f.2 in
      record { k = f.0; upto = omega (arith, f.1); weight = both.0; outside = λ h. true≢false (sym both.1 ∙ in_axis b h) }

  pub inside_unfolded : AllInside (order_on a.len order) mode length pad a i → folded_at order mode a i ≡ false
  unfolding folded_at
  inside_unfolded h = some_none (folded_by o mode a i) (o + 1) (λ k l. go k (omega arith) (weighs (weight_at o mode a i k)) refl)
    where
      go : (k : ℕ) → k ≤ o → (t : Bool) → weighs (weight_at o mode a i k) ≡ t → (t && beyond a (unfolded_at o mode a i k)) ≡ false
      go k l true e = in_axis b (h k l e)
      go k l false e = refl

  -- each of a kept one is a whole number, inside or not
  module _ (r : Reached order a i) (keeps : kept (settled mode a i) ≡ true) where
    inside_at : (k : ℕ) → k ≤ o → beyond a (unfolded_at o mode a i k) ≡ false → InAxis length pad (unfolded_at o mode a i k)
    unfolding unfolded_at
    inside_at k l e =
        let p = reached_kept order mode a i refl r keeps in
        let n = neighbour-whole o (settled mode a i) k p.upto p.bound (above_kept (settled mode a i) p.above) l in
        not_beyond b n.0 n.1 e

    pub unfolded_inside : folded_at order mode a i ≡ false → AllInside (order_on a.len order) mode length pad a i
    unfolding folded_at
    unfolded_inside e k l w = inside_at k l (ap (λ (t : Bool). t && beyond a (unfolded_at o mode a i k)) (sym w) ∙ none-at (folded_by o mode a i) (o + 1) e k (omega arith))

    pub outside_folded : SomeOutside (order_on a.len order) mode length pad a i → folded_at order mode a i ≡ true
    outside_folded s = go (folded_at order mode a i) refl
      where
        go : (t : Bool) → folded_at order mode a i ≡ t → t ≡ true
        go true e = refl
        go false e = absurd (s.outside (unfolded_inside e s.k s.upto s.weight))

-- ---- order 0, and a single slice at any order: a kept index that is not refused reads its one voxel inside
pub order_0_unfolded : (order : ℕ) (mode : BorderMode) (a : Axis) (i : ℕ) → order_on a.len order ≡ 0 → a.pad ≡ num 0 → Reached order a i → kept (settled mode a i) ≡ true → beside_at mode a i ≡ false → folded_at order mode a i ≡ false
unfolding beside_at unfolded_at
order_0_unfolded order mode a i zeroth pad r keeps e =
    let p = subst (λ (o : ℕ). Kept o a.len (settled mode a i)) zeroth (reached_kept order mode a i refl r keeps) in
    let to = settled mode a i in
    let none : outside 0 a.len (first_neighbour 0 to) ≡ false = ap (λ (t : Bool). t && outside 0 a.len (first_neighbour 0 to)) (sym keeps) ∙ e in
    inside_unfolded order mode {a = a} {length = a.len} {pad = 0} (record { long = omega arith; stands = pad; short = r.most }) i (subst (λ (o : ℕ). AllInside o mode a.len 0 a i) (sym zeroth) (λ k l w.
    let n = neighbour_stands 0 a.len to k p.upto p.most p.bound (above_kept to p.above) l none in
    (n.0, n.1, subst (λ (m : ℕ). Is (first_neighbour 0 to ⊕ num k) (pos m)) (sym (zero-add n.0)) n.2)))

-- ---- order 1: a coordinate between two voxels of the axis reads both
pub order_1_unfolded : (mode : BorderMode) {a : Axis} {length : ℕ} → Padded a length 0 → (i : ℕ) {x : ℕ} → Is (floor_f (settled mode a i)) (pos x) → x + 1 < length → folded_at 1 mode a i ≡ false
unfolding unfolded_at first_neighbour base
order_1_unfolded mode {a} {length} b i {x} is l = inside_unfolded 1 mode b i (subst (λ (o : ℕ). AllInside o mode length 0 a i) (sym (long_order a.len 1 (omega (arith, b.long)))) (λ k m w. (x + k, omega arith, subst (λ (n : ℕ). Is (unfolded_at 1 mode a i k) (pos n)) (sym (zero-add (x + k))) (plus first (num_is k (omega arith)) (omega (arith, b.long, b.short))))))
  where
    first : Is (first_neighbour 1 (settled mode a i)) (pos x)
    first = subst (λ (n : ℕ). Is (floor_f (settled mode a i) ⊖ num 0) (pos n)) (sub-zero x) (minus is (num_is 0 (lit≤ tt)) zero-le (omega (arith, b.long, b.short)))
