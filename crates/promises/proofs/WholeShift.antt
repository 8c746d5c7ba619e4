-- One axis in Constant, shifted by a whole number below 2^20: output index i reads index i - shift where that lies inside the axis, and is dropped where it does not.
use Prim.Native.Nat.{ℕ, zero, suc, ◌+◌, ◌-◌, ◌^◌, ◌≤◌, ◌<◌}
use native.Mathlib.Nat.{le_refl}
use native.Mathlib.Decide.{dec_lt}
use native.Mathlib.Omega.{arith}
use mathlib.Core.Path.{◌≡◌, refl, sym, ap, ◌∙◌, subst}
use mathlib.Core.Logic.{◌⊎◌, inl, inr, ⊎_elim, dite}
use mathlib.Core.Bool.{Bool, true, false, ◌&&◌, ◌||◌, cond}
use lib.IntN.{ℤ, pos, negsuc, nat_abs, ◌-ℤ◌, +ℤ_idr}
use lib.Dec.{T, ltb, le→leb, lit≤}
use lib.Ieee.{Float, binary64, neg, lt, le, of_int}
use lib.Ieee.Fits.{add-fits}
use borrow.Author.Tests.{lt-leb}
use Rattle.limits.specs.Limits.{single}
use Rattle.limits.proofs.Singles.{single_one, two_long, long_two}
use Rattle.exact.specs.Rounded.{◌⊕◌, num}
use Rattle.exact.specs.Whole.{Is}
use Rattle.exact.proofs.Value.{is_true}
use Rattle.exact.proofs.Tests.{or_l, or_r}
use Rattle.exact.proofs.Is.{add_is, neg_is, lt_is, le_is, is_eq}
use Rattle.exact.proofs.Naturals.{num_is, not_below}
use Rattle.exact.proofs.Weights.{mul-one_r}
use Rattle.border.specs.declared.BorderMode.TheVariants.{Constant}
use Rattle.border.specs.Fold.{fold, fold_constant}
use Rattle.border.proofs.Arms.{inside}
use Rattle.axis.specs.declared.coordinate.Axis.{Axis}
use Rattle.axis.specs.Coordinate.{shift_axis, unpadded, coordinate, settled, kept}
use Rattle.axis.specs.Neighbours.{outside, first_neighbour}
use Rattle.axis.specs.Point.{point_at, beside_at}
use Rattle.axis.specs.Folded.{folded_at}
use Rattle.axis.proofs.Coordinates.{single-settled, long_settled}
use Rattle.axis.proofs.Singles.{Lone, lone_beside, shift_lone}
use Rattle.coverage.specs.Coverage.{kept_at}
use Rattle.promises.specs.Moves.{Outside}
use Rattle.promises.proofs.WholePoint.{Names, not_beside, whole-kept, whole_names, lone_names, whole_unfolded}

-- ---- the size of a difference
size : (i : ℕ) (z : ℤ) → nat_abs (pos i -ℤ z) ≤ i + nat_abs z
size i (pos zero) = le_refl (i + 0)
size i (pos (suc k)) = go (ltb i (suc k))
  where
    go : (b : Bool) → nat_abs (cond b (negsuc (suc k - suc i)) (pos (i - suc k))) ≤ i + suc k
    go true = omega arith
    go false = omega arith
size i (negsuc k) = le_refl (i + suc k)

-- ---- a whole number lies inside an axis, or outside
pub where_lies : (n : ℕ) (z : ℤ) → ((x : ℕ) × (x < n) × (z ≡ pos x)) ⊎ Outside n z
where_lies n (negsuc k) = inr (inl tt)
where_lies n (pos x) = dite (dec_lt x n) (λ l. inl (x, l, refl)) (λ b. inr (inr (le→leb n x (omega arith))))

-- an axis n long, and its shift; a single slice is not shifted
pub record Shifts (n : ℕ) (shift : Float) (s : ℤ) : Type 0 where
  pub least : 1 ≤ n
  pub still : n ≡ 1 → s ≡ pos 0
  pub most : n ≤ 4096
  pub is : Is shift s
  pub small : nat_abs s < 2 ^ 20

-- ---- its coordinate, in any mode
module _ {n : ℕ} {shift : Float} {s : ℤ} (g : Shifts n shift s) (i : ℕ) (l : i < n) where
  pub unpadded_is : (pad : ℕ) → Is (unpadded (shift_axis n shift pad) i) (pos i -ℤ s)
  unfolding unpadded of_int
  unpadded_is pad =
      let far = size i s in
      subst (λ (x : Float). Is x (pos i -ℤ s)) (sym (mul-one_r (num i ⊕ neg shift) (add-fits binary64 (num i) (neg shift)))) (add_is (num_is i (omega arith)) (neg_is g.is) (omega arith))

  pub coordinate_is : Is (coordinate (shift_axis n shift 0) i) (pos i -ℤ s)
  unfolding coordinate
  coordinate_is =
      let far = size i s in
      let e = +ℤ_idr (pos i -ℤ s) in
      subst (λ (z : ℤ). Is (coordinate (shift_axis n shift 0) i) z) e (add_is (unpadded_is 0) (num_is 0 (lit≤ tt)) (subst (λ (z : ℤ). nat_abs z ≤ 2 ^ 53) (sym e) (omega arith)))

  pub coordinate_near : nat_abs (pos i -ℤ s) ≤ 2 ^ 21
  coordinate_near = omega (arith, size i s, g.small, g.most)

  whole_length : (shift_axis n shift 0).len ≡ n
  whole_length = omega arith

  pub length_is : Is (num (shift_axis n shift 0).len) (pos n)
  length_is = subst (λ (k : ℕ). Is (num (shift_axis n shift 0).len) (pos k)) whole_length (num_is (shift_axis n shift 0).len (omega arith))

  -- it is longer, or a single slice
  pub longer_or_slice : (2 ≤ n) ⊎ ((n ≡ 1) × Lone (shift_axis n shift 0) i)
  longer_or_slice = go (single n) refl
    where
      go : (t : Bool) → single n ≡ t → (2 ≤ n) ⊎ ((n ≡ 1) × Lone (shift_axis n shift 0) i)
      go true t =
          let one = single_one n t in
          let z : i ≡ 0 = omega arith in
          inr (one, subst (λ (i : ℕ). Lone (shift_axis n shift 0) i) (sym z) (shift_lone shift 0 one refl (is_true _ (is_eq g.is (num_is 0 (lit≤ tt)) (g.still one)))))
      go false t = inl (long_two n t g.least)

  -- whose index does not leave it
  pub slice_stays : n ≡ 1 → pos i -ℤ s ≡ pos 0
  slice_stays one = let z : i ≡ 0 = omega arith in (λ t. pos (z t) -ℤ g.still one t)

-- ---- in Constant
module _ (fill : Float) {n : ℕ} {shift : Float} {s : ℤ} (g : Shifts n shift s) (i : ℕ) (l : i < n) where
  abbrev a : Axis
  a = shift_axis n shift 0

  slice_inside : n ≡ 1 → Outside n (pos i -ℤ s) → ⊥
  slice_inside one out = elim (subst (λ (n : ℕ). Outside n (pos 0)) one (subst (λ (z : ℤ). Outside n z) (slice_stays g i l one) out)) [ inl b ↦ b | inr b ↦ b ]

  settles_long : 2 ≤ n → settled (Constant fill) a i ≡ fold (Constant fill) (coordinate a i) (num a.len)
  settles_long two = long_settled (Constant fill) a i (two_long a.len (omega arith))

  -- ---- where the index lies outside
  module _ (out : Outside n (pos i -ℤ s)) where
    settles_out : settled (Constant fill) a i ≡ neg (num 1)
    unfolding fold fold_constant
    settles_out =
        ⊎_elim settles_long (λ h. absurd (slice_inside h.0 out)) (longer_or_slice g i l)
        ∙ ap (λ (b : Bool). cond b (neg (num 1)) (coordinate a i)) (is_true (lt (coordinate a i) (num 0) || le (num a.len) (coordinate a i)) (elim out [
          | inl b ↦ or_l (lt (coordinate a i) (num 0)) (le (num a.len) (coordinate a i)) (subst T (sym (lt_is (coordinate_is g i l) (num_is 0 (lit≤ tt)))) b)
          | inr b ↦ or_r (lt (coordinate a i) (num 0)) (le (num a.len) (coordinate a i)) (subst T (sym (le_is (length_is g i l) (coordinate_is g i l))) b)
        ]))

    pub dropped : kept_at (Constant fill) a i ≡ false
    unfolding kept_at
    dropped = let m = neg_is (num_is 1 (lit≤ tt)) in ap kept settles_out ∙ lt_is m m

  -- ---- where it is index x
  module _ (x : ℕ) (lies : x < n) (e : pos i -ℤ s ≡ pos x) where
    reads : Is (coordinate a i) (pos x)
    reads = subst (λ (z : ℤ). Is (coordinate a i) z) e (coordinate_is g i l)

    stands : coordinate a i ≡ settled (Constant fill) a i
    stands =
        ⊎_elim (λ two. inside (Constant fill) (coordinate a i) (num a.len) (not_below reads) (le_is (length_is g i l) reads ∙ lt-leb n x lies) ∙ sym (settles_long two))
        (λ h. sym (single-settled (Constant fill) a i (ap (λ (k : ℕ). single k) h.1.one))) (longer_or_slice g i l)

    settles : Is (settled (Constant fill) a i) (pos x)
    settles = subst (λ (y : Float). Is y (pos x)) stands reads

    pub stays : kept_at (Constant fill) a i ≡ true
    stays = whole-kept (Constant fill) a i settles

    pub point_unfolded : (order : ℕ) → order ≤ 1 → folded_at order (Constant fill) a i ≡ false
    point_unfolded order o = whole_unfolded (Constant fill) a i refl (omega arith) settles order o (omega arith)

    pub point_names : (order : ℕ) → order ≤ 1 → Names order n x (point_at order (Constant fill) a i)
    point_names order o =
        ⊎_elim (λ two. subst (λ (L : ℕ). Names order L x (point_at order (Constant fill) a i)) (whole_length g i l) (whole_names (Constant fill) a i settles (omega arith) (omega arith) (omega arith) order o))
        (λ h.
        let one = h.0 in
        let z : x ≡ 0 = omega arith in
        subst (λ (L : ℕ). Names order L x (point_at order (Constant fill) a i)) (sym one) (subst (λ (y : ℕ). Names order 1 y (point_at order (Constant fill) a i)) (sym z) (lone_names (Constant fill) h.1 order))) (longer_or_slice g i l)

    inside_not_beside : beside_at (Constant fill) a i ≡ false
    unfolding beside_at kept_at
    inside_not_beside =
        ⊎_elim (λ two. ap (λ (b : Bool). kept (settled (Constant fill) a i) && b) (not_beside {L = a.len} settles (omega arith) (omega arith) (omega arith)) ∙ ap (λ (b : Bool). b && false) stays)
        (λ h. lone_beside (Constant fill) h.1) (longer_or_slice g i l)

  pub never_beside : beside_at (Constant fill) a i ≡ false
  unfolding beside_at kept_at
  never_beside = elim (where_lies n (pos i -ℤ s)) [
    | inl h ↦ inside_not_beside h.0 h.1 h.2
    | inr out ↦ ap (λ (b : Bool). b && outside 0 a.len (first_neighbour 0 (settled (Constant fill) a i))) (dropped out)
  ]
