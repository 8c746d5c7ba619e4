-- The sum of order 1 where on each axis the first weight is 1 and the second 0: eight products, of which the first is the voxel itself and the others are zeros. It is that voxel as a number.
use Prim.Native.Nat.{ℕ, ◌+◌, ◌*◌, ◌≤◌}
use mathlib.Core.Path.{◌≡◌, sym, ◌∙◌, subst}
use mathlib.Core.List.{List}
use lib.IntN.{pos}
use lib.Dec.{T, lit≤}
use lib.ListN.{get_or}
use lib.Ieee.{Float, nan, binary64, fits, of_int}
use lib.Ieee.Fits.{add-fits, mul-fits}
use lib.Ieee.Scale.{finite}
use Rattle.exact.specs.Rounded.{◌⊕◌, ◌⊗◌, num}
use Rattle.exact.specs.Whole.{Is}
use Rattle.exact.specs.Same.{Same}
use Rattle.exact.proofs.Is.{is_W, mul_is}
use Rattle.exact.proofs.Naturals.{num_is}
use Rattle.exact.proofs.Weights.{mul-one_r, mul-zero_r, mul-zero_l, is_finite, sum_hit, sum_keep}
use Rattle.voxels.specs.Sum.{Tap, sum_at, sum_z, sum_y, sum_x}

-- s is an f64, and is v as a number
pub record Holds (v s : Float) : Type 0 where
  pub is64 : T (fits binary64 s)
  pub same : Same s v

hit : (v w : Float) → T (fits binary64 v) → T (finite v) → T (fits binary64 w) → Is w (pos 1) → Holds v (num 0 ⊕ v ⊗ w)
unfolding of_int
hit v w f t g h =
    let own : v ⊗ w ≡ v = (λ i. v ⊗ is_W h g (lit≤ tt) (lit≤ tt) i) ∙ mul-one_r v f in
    subst (λ (x : Float). Holds v (num 0 ⊕ x)) (sym own) (record { is64 = add-fits binary64 (num 0) v; same = sum_hit (num 0) v f t (num_is 0 (lit≤ tt)) })

keep : {v s w : Float} (x : Float) → T (finite x) → Is w (pos 0) → Holds v s → Holds v (s ⊕ x ⊗ w)
keep {v} {s} {w} x t h k = record { is64 = add-fits binary64 s (x ⊗ w); same = sum_keep s v k.is64 k.same (mul-zero_r x t h) }

-- weights 1 and 0
pub record Unit (t : Tap) : Type 0 where
  pub first : Is (t.weight 0) (pos 1)
  pub second : Is (t.weight 1) (pos 0)

module _ (xs : List Float) (plane row : ℕ) (x y : Tap) (ux : Unit x) (uy : Unit y) where
  -- along axis 0, and along axis 1, both neighbours of weight 0
  keep_x : (place : ℕ) {v s w : Float} → ((i : ℕ) → i ≤ 1 → T (finite (get_or xs (x.at i * plane + place) nan))) → Is w (pos 0) → Holds v s → Holds v (sum_x xs plane x place w s 2)
  unfolding sum_x
  keep_x place t h k =
      keep (get_or xs (x.at 1 * plane + place) nan) (t 1 (lit≤ tt)) (mul-zero_r (x.weight 1) (is_finite (x.weight 1) ux.second) h)
      (keep (get_or xs (x.at 0 * plane + place) nan) (t 0 (lit≤ tt)) (mul-zero_r (x.weight 0) (is_finite (x.weight 0) ux.first) h) k)

  keep_y : (z : ℕ) {v s w : Float} → ((i j : ℕ) → i ≤ 1 → j ≤ 1 → T (finite (get_or xs (x.at i * plane + (y.at j * row + z)) nan))) → Is w (pos 0) → Holds v s → Holds v (sum_y xs plane row 2 x y z w s 2)
  unfolding sum_y
  keep_y z t h k =
      keep_x (y.at 1 * row + z) (λ i l. t i 1 l (lit≤ tt)) (mul-zero_r (y.weight 1) (is_finite (y.weight 1) uy.second) h)
      (keep_x (y.at 0 * row + z) (λ i l. t i 0 l (lit≤ tt)) (mul-zero_r (y.weight 0) (is_finite (y.weight 0) uy.first) h) k)

  module _ (z : Tap) (uz : Unit z) where
    abbrev pub near : ℕ → ℕ → ℕ → Float
    near i j k = get_or xs (x.at i * plane + (y.at j * row + z.at k)) nan

    pub one_voxel : T (fits binary64 (near 0 0 0)) → ((i j k : ℕ) → i ≤ 1 → j ≤ 1 → k ≤ 1 → T (finite (near i j k))) → Holds (near 0 0 0) (sum_at xs plane row 2 x y z)
    unfolding sum_at sum_z sum_y sum_x
    one_voxel f t =
        let one : Is (y.weight 0 ⊗ z.weight 0) (pos 1) = mul_is uy.first uz.first (lit≤ tt) in
        keep_y (z.at 1) (λ i j l m. t i j 1 l m (lit≤ tt)) uz.second
        (keep_x (y.at 1 * row + z.at 0) (λ i l. t i 1 0 l (lit≤ tt) (lit≤ tt)) (mul-zero_l (z.weight 0) (is_finite (z.weight 0) uz.first) uy.second)
        (keep (near 1 0 0) (t 1 0 0 (lit≤ tt) (lit≤ tt) (lit≤ tt)) (mul-zero_l (y.weight 0 ⊗ z.weight 0) (is_finite (y.weight 0 ⊗ z.weight 0) one) ux.second)
        (hit (near 0 0 0) (x.weight 0 ⊗ (y.weight 0 ⊗ z.weight 0)) f (t 0 0 0 (lit≤ tt) (lit≤ tt) (lit≤ tt)) (mul-fits binary64 (x.weight 0) (y.weight 0 ⊗ z.weight 0)) (mul_is ux.first one (lit≤ tt)))))
