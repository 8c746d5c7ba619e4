-- The record of a whole coordinate x inside its axis, at orders 0 and 1: voxel x has the weight 1, and the other neighbours, inside too, have 0.
use Prim.Native.Nat.{ℕ, zero, suc, ◌+◌, ◌-◌, ◌/◌, ◌^◌, ◌≤◌, ◌<◌, zero-le}
use native.Mathlib.Nat.{zero-add}
use native.Mathlib.Decide.{dec_lt}
use native.Mathlib.Omega.{arith}
use mathlib.Core.Path.{◌≡◌, refl, sym, ap, ◌∙◌, subst}
use mathlib.Core.Logic.{dite}
use mathlib.Core.Bool.{Bool, true, false, ◌&&◌, ◌||◌, cond, true≢false}
use mathlib.Core.List.{List, ◌∷◌}
use lib.IntN.{pos}
use lib.Dec.{eqb, lit≤}
use lib.ListN.{get_or, replicate, get_or-replicate, get_or-eq_default}
use lib.Ieee.{Float, nan, of_int, sub, le, eq}
use borrow.Author.Tests.{le-leb, lt-leb, le-ltb}
use Rattle.exact.specs.Rounded.{◌⊕◌, ◌⊖◌, num}
use Rattle.exact.specs.Whole.{Is}
use Rattle.exact.proofs.Is.{neg_is, lt_is, le_is}
use Rattle.exact.proofs.Naturals.{num_is, plus, minus, not_below}
use Rattle.exact.proofs.Modulo.{floor_is}
use Rattle.exact.proofs.Casts.{to_unsigned_is, unsigned_asks}
use Rattle.exact.proofs.Withins.{is_within}
use Rattle.lists.proofs.Tabulated.{get_d_tabulate}
use Rattle.lists.proofs.Somes.{some_at}
use Rattle.border.specs.declared.BorderMode.{BorderMode}
use Rattle.border.specs.Fold.{fold}
use Rattle.border.proofs.Landing as landing
use Rattle.axis.specs.declared.coordinate.Axis.{Axis}
use Rattle.axis.specs.declared.point.Point.{Point}
use Rattle.axis.specs.Coordinate.{settled}
use Rattle.axis.specs.Weights.{order_on, base, leading, completed, sum_from, build_splines}
use Rattle.axis.specs.Neighbours.{first_neighbour, outside, spline_mode, neighbour, neighbour_index}
use Rattle.axis.specs.Point.{neighbours, kept_point, point_at}
use Rattle.axis.specs.Folded.{weighs, beyond, weight_at, unfolded_at, folded_by, some_folded, folded_at, AllInside}
use Rattle.axis.proofs.Folding.{Padded, beyond-at, inside_unfolded}
use Rattle.axis.proofs.Weights.{whole_linear}
use Rattle.axis.proofs.Inside.{index_inside}
use Rattle.axis.proofs.Points.{place_of, kept_inside, long_order, order_most, point-kept}
use Rattle.axis.proofs.Singles.{Lone, lone_point}
use Rattle.coverage.specs.Coverage.{kept_at}
use Rattle.voxels.specs.Sum.{lent}
use Rattle.voxels.specs.Voxel.{tap_of}
use Rattle.exact.proofs.Halves.{floor_half}
use Rattle.promises.proofs.OneVoxel.{Unit}

pub low_order : (P : ℕ → Type 0) → P 0 → P 1 → (order : ℕ) → order ≤ 1 → P order
low_order P a b zero l = a
low_order P a b (suc zero) l = b
low_order P a b (suc (suc k)) l = absurd (omega (arith, l))

-- the six weights there
abbrev ones : List Float
ones = num 1 ∷ replicate 5 (num 0)

-- t reads voxel x of an axis L long, and nothing else that counts
pub record Names (order L x : ℕ) (t : Point) : Type 0 where
  pub first : get_or t.at 0 0 ≡ x
  pub within : (k : ℕ) → k ≤ order → get_or t.at k 0 < L
  pub weights : Unit (tap_of t)

unit : {w : List Float} (at : List ℕ) → w ≡ ones → Unit (lent at w)
unit at e = record { first = subst (λ (w : List Float). Is (get_or w 0 nan) (pos 1)) (sym e) (num_is 1 (lit≤ tt)); second = subst (λ (w : List Float). Is (get_or w 1 nan) (pos 0)) (sym e) (num_is 0 (lit≤ tt)) }

-- ---- place k of the neighbours, where it counts
nth : (mode : BorderMode) (order L : ℕ) (first : Float) (k : ℕ) → order ≤ 5 → k ≤ order → get_or (neighbours mode order L first) k 0 ≡ neighbour_index mode (outside order L first) L first k
unfolding neighbours
nth mode order L first k o l =
    get_d_tabulate 6 (place_of mode (outside order L first) order L first) 0 k (omega arith) ∙ ap (λ (b : Bool). cond b (neighbour_index mode (outside order L first) L first k) 0) (le-leb k order l)

-- ---- the weights and the first neighbour; at order 0, where 0.5 is added to find it, of coordinates up to 2^20
module _ {to : Float} {x : ℕ} (is : Is to (pos x)) (most : x ≤ 2 ^ 32) where
  weights_are : (order : ℕ) → order ≤ 1 → build_splines order to ≡ ones
  unfolding build_splines leading completed sum_from sub of_int
  weights_are = low_order (λ k. build_splines k to ≡ ones) refl (whole_linear is)

  base_is : (order : ℕ) → order ≤ 1 → (order < 1 → x ≤ 2 ^ 20) → Is (base order to) (pos x)
  unfolding base
  base_is = low_order (λ k. (k < 1 → x ≤ 2 ^ 20) → Is (base k to) (pos x)) (λ near. floor_half is (near (lit≤ tt))) (λ near. subst (λ (y : Float). Is y (pos x)) (sym (floor_is is)) is)

  first_is : (order : ℕ) → order ≤ 1 → (order < 1 → x ≤ 2 ^ 20) → Is (first_neighbour order to) (pos x)
  unfolding first_neighbour
  first_is order l near =
      let none : order / 2 ≡ 0 = omega arith in
      let all : x - order / 2 ≡ x = omega arith in
      subst (λ (k : ℕ). Is (base order to ⊖ num (order / 2)) (pos k)) all (minus (base_is order l near) (num_is (order / 2) (omega arith)) (omega arith) (omega arith))

-- which stays as it is
first-stays : {first : Float} {x : ℕ} → Is first (pos x) → x ≤ 2 ^ 32 → Is (first ⊕ num 0) (pos x)
first-stays {first} {x} h l = let e : x + 0 ≡ x = omega arith in subst (λ (k : ℕ). Is (first ⊕ num 0) (pos k)) e (plus h (num_is 0 (lit≤ tt)) (omega arith))

module _ {to : Float} {x L : ℕ} (is : Is to (pos x)) (lies : x < L) (two : 2 ≤ L) (top : L ≤ 4120) where
  most : x ≤ 2 ^ 32
  most = omega arith

  first_names : (order : ℕ) → order ≤ 1 → Is (first_neighbour order to) (pos x)
  first_names order l = first_is is most order l (λ _. omega arith)

  -- the first neighbour stays, whether or not another makes all of them pass through the fold
  module _ {first : Float} (h : Is first (pos x)) where
    stays : Is (first ⊕ num 0) (pos x)
    stays = first-stays h most

    before_end : le (num L) (first ⊕ num 0) ≡ false
    before_end = le_is (num_is L (omega arith)) stays ∙ lt-leb L x lies

    index_is : (mode : BorderMode) (out : Bool) → neighbour_index mode out L first 0 ≡ x
    unfolding neighbour_index neighbour
    index_is mode out = to_unsigned_is (go out) (omega arith)
      where
        go : (out : Bool) → Is (cond out (fold (spline_mode mode) (first ⊕ num 0) (num L)) (first ⊕ num 0)) (pos x)
        go true = landing.stays (first ⊕ num 0) (num L) L two top (num_is L (omega arith)) (spline_mode mode) stays lies
        go false = stays

    none-outside : outside 0 L first ≡ false
    none-outside = ap (λ (b : Bool). b || le (num L) (first ⊕ num 0)) (not_below h) ∙ before_end

  pub not_beside : outside 0 L (first_neighbour 0 to) ≡ false
  not_beside = none-outside (first_names 0 (lit≤ tt))

  names : (order : ℕ) (mode : BorderMode) → order ≤ 1 → Names order L x (kept_point order mode L to)
  names order mode l =
      let first = first_neighbour order to in
      let counts : (eqb order 0 && outside order L first) ≡ false = low_order (λ k. (eqb k 0 && outside k L (first_neighbour k to)) ≡ false) not_beside refl order l in
      let at = nth mode order L first in
      subst (λ (t : Point). Names order L x t) (kept_inside order mode L to refl counts refl refl) (record {
        first = at 0 (omega arith) (omega arith) ∙ index_is (first_names order l) mode (outside order L first);
        within = λ k m. subst (λ (j : ℕ). j < L) (sym (at k (omega arith) m)) (index_inside order mode L to k (omega arith) (λ _. two) top (is_within 30 is (omega arith)) (unsigned_asks is (omega arith)).0 m);
        weights = unit (neighbours mode order L first) (weights_are is most order l);
      })

one_weighs : weighs (num 1) ≡ true
unfolding eq of_int
one_weighs = refl

zero_weightless : weighs (num 0) ≡ false
unfolding eq of_int
zero_weightless = refl

-- ---- an output index that settles there
module _ (mode : BorderMode) (a : Axis) (i : ℕ) {x : ℕ} (is : Is (settled mode a i) (pos x)) where
  pub whole-kept : kept_at mode a i ≡ true
  unfolding kept_at
  whole-kept = lt_is (neg_is (num_is 1 (lit≤ tt))) is

  pub whole_names : x < a.len → 2 ≤ a.len → a.len ≤ 4120 → (order : ℕ) → order ≤ 1 → Names order a.len x (point_at order mode a i)
  unfolding kept_at
  whole_names lies two top order low = subst (λ (t : Point). Names order a.len x t) (point-kept order mode a i refl (sym (long_order a.len order two)) whole-kept) (names is lies two top order mode low)

-- a single slice names its one voxel
pub lone_names : (mode : BorderMode) {a : Axis} {i : ℕ} → Lone a i → (order : ℕ) → Names order 1 0 (point_at order mode a i)
lone_names mode l order = subst (λ (t : Point). Names order 1 0 t) (sym (lone_point mode l order)) (record { first = refl; within = λ k _. nowhere k; weights = unit (replicate 6 0) refl })
  where
    nowhere : (k : ℕ) → get_or (replicate 6 0) k 0 < 1
    nowhere k = subst (λ (n : ℕ). n < 1) (sym (dite (dec_lt k 6) (λ h. get_or-replicate 6 k 0 0 h) (λ n. get_or-eq_default (replicate 6 0) 0 {n = k} (omega arith)))) (lit≤ tt)

-- ---- whether a neighbour was folded there: voxel x alone has a weight
module _ (mode : BorderMode) (a : Axis) (i : ℕ) {x : ℕ} (pad : a.pad ≡ num 0) (short : a.len ≤ 4120) (is : Is (settled mode a i) (pos x)) where
  unpadded : Padded a a.len 0
  unpadded = record { long = omega arith; stands = pad; short = short }

  module _ (most : x ≤ 2 ^ 32) (order : ℕ) (low : order ≤ 1) where
    first-at : (order < 1 → x ≤ 2 ^ 20) → Is (unfolded_at order mode a i 0) (pos x)
    unfolding unfolded_at
    first-at near = first-stays (first_is is most order low near) most

    weight-at : (k : ℕ) → weight_at order mode a i k ≡ get_or ones k nan
    unfolding weight_at
    weight-at k = ap (λ (w : List Float). get_or w k nan) (weights_are is most order low)

  -- inside the axis none was
  pub whole_unfolded : (order : ℕ) → order ≤ 1 → x < a.len → folded_at order mode a i ≡ false
  whole_unfolded order low l = inside_unfolded order mode unpadded i inside_at
    where
      o : ℕ
      o = order_on a.len order

      least : o ≤ 1
      least = order_most a.len order low

      inside_at : AllInside o mode a.len 0 a i
      inside_at zero k w = (x, l, subst (λ (n : ℕ). Is (unfolded_at o mode a i 0) (pos n)) (sym (zero-add x)) (first-at (omega arith) o least (λ _. omega arith)))
      inside_at (suc zero) k w = absurd (true≢false (sym w ∙ ap weighs (weight-at (omega arith) o least 1) ∙ zero_weightless))
      inside_at (suc (suc k)) l w = absurd (omega (arith, least))

  -- behind it voxel x was
  pub whole_folded : 2 ≤ a.len → a.len ≤ x → x ≤ 2 ^ 32 → folded_at 1 mode a i ≡ true
  unfolding folded_at
  whole_folded two l most =
      let weight : weighs (weight_at 1 mode a i 0) ≡ true = ap weighs (weight-at most 1 (lit≤ tt) 0) ∙ one_weighs in
      let beyond-it : beyond a (unfolded_at 1 mode a i 0) ≡ true = beyond-at unpadded (first-at most 1 (lit≤ tt) (λ h. absurd (omega (arith, h)))) ∙ (λ t. le-ltb x 0 zero-le t || le-leb (a.len + 0) x (omega arith) t) in
      ap (λ (o : ℕ). some_folded o mode a i) (long_order a.len 1 two) ∙ some_at (folded_by 1 mode a i) 2 0 (lit≤ tt) (λ t. weight t && beyond-it t)
