-- The sums, one turn at a time; and of four voxels at once.
use Prim.Native.Nat.{ℕ, zero, suc, ◌+◌, ◌*◌, ◌≤◌, ◌<◌}
use native.Mathlib.Omega.{arith}
use native.Mathlib.Numerals.{add-one}
use native.Mathlib.Nat.{add_assoc, mul-le-mul_left, mul-one}
use mathlib.Core.Path.{◌≡◌, ◌∙◌}
use mathlib.Core.List.{List}
use lib.ListN.{get_or, take, drop}
use lib.Ieee.{Float, nan}
use Rattle.lists.proofs.Stretches.{next, in_part}
use Rattle.voxels.specs.declared.sum.Four.{Four}
use Rattle.voxels.specs.declared.row.Row.{Row}
use Rattle.voxels.specs.declared.table.Table.{Table}
use Rattle.exact.specs.Rounded.{◌⊗◌}
use Rattle.voxels.specs.Bookkeeping.{column, Each, lane, at_lane}
use Rattle.voxels.specs.Sum.{Tap, term, sum_x, sum_y, sum_z}

-- ---- what holds in each of the four lanes
pub in_each : (P : ℕ → Type 0) → P 0 → P 1 → P 2 → ((j : ℕ) → P (suc (suc (suc j)))) → (j : ℕ) → P j
in_each P a b c d zero = a
in_each P a b c d (suc zero) = b
in_each P a b c d (suc (suc zero)) = c
in_each P a b c d (suc (suc (suc j))) = d j

pub lane_of : {A : Type 0} (P : A → Type 0) (f : Four A) → Each P f → (j : ℕ) → P (at_lane f j)
lane_of P f h = in_each _ h.0 h.1.0 h.1.1.0 (λ j. h.1.1.1)

pub each_of : {A : Type 0} (P : A → Type 0) (f : Four A) → ((j : ℕ) → P (at_lane f j)) → Each P f
each_of P f h = (h 0, (h 1, (h 2, h 3)))

pub lane_below : (j : ℕ) → lane j < 4
lane_below = in_each _ (omega arith) (omega arith) (omega arith) (λ j. omega arith)

-- ---- stretches of p places
least : (i p : ℕ) → 0 < p → i + 1 ≤ (i + 1) * p
least i p h = omega (arith, mul-le-mul_left (i + 1) h, mul-one (i + 1))

-- stretch i lies within `count` places
pub record Room (i p count : ℕ) : Type 0 where
  pub ends : (i + 1) * p ≡ i * p + p
  pub least : i + 1 ≤ (i + 1) * p
  pub within : (i + 1) * p ≤ count

pub room : (i p count place : ℕ) → place < p → (i + 1) * p ≤ count → Room i p count
room i p count place h l = record { ends = next i p; least = least i p (omega arith); within = l }

-- a place of a stretch lies within what the stretches fill
pub within : (j p z count : ℕ) → z < p → (j + 1) * p ≤ count → j * p + z < count
within j p z count h l = omega (arith, next j p)

-- a place of a row that the record of axis 1 names lies in the plane
pub in_plane : (r : Row) (k place : ℕ) → k < r.source.order + 1 → place < r.source.row → get_or r.y.now.at k 0 * r.source.row + place < r.source.plane
in_plane r k place h l = within _ _ _ _ l (r.in_source.rows k h)

-- ---- one turn more
module _ (xs : List Float) (p : ℕ) (x : Tap) (place : ℕ) (v s : Float) (k : ℕ) {t r : Float} where
  pub turn_x : t ≡ sum_x xs p x place v s k → r ≡ term t (get_or xs (x.at k * p + place) nan) (x.weight k) v → r ≡ sum_x xs p x place v s (k + 1)
  unfolding sum_x
  turn_x e q = q ∙ (λ i. term (e i) (get_or xs (x.at k * p + place) nan) (x.weight k) v) ∙ rw add-one

  -- where the plane is lent as a stretch
  pub turn_x_lent : place < p → t ≡ sum_x xs p x place v s k → r ≡ term t (get_or (take p (drop (x.at k * p) xs)) place nan) (x.weight k) v → r ≡ sum_x xs p x place v s (k + 1)
  turn_x_lent h e q =
      let f = in_part nan xs (x.at k * p) p place h in
      turn_x e (q ∙ (λ i. term t (f i) (x.weight k) v))

module _ (xs : List Float) (plane row n : ℕ) (x y : Tap) where
  pub turn_y :
      (z : ℕ) (w s : Float) (k : ℕ) {t r v : Float} {place : ℕ} →
      t ≡ sum_y xs plane row n x y z w s k →
      place ≡ y.at k * row + z →
      v ≡ y.weight k ⊗ w →
      r ≡ sum_x xs plane x place v t n →
      r ≡ sum_y xs plane row n x y z w s (k + 1)
  unfolding sum_y
  turn_y z w s k e f g q = q ∙ (λ i. sum_x xs plane x (f i) (g i) (e i) n) ∙ rw add-one

  pub turn_z :
      (z : Tap) (k : ℕ) {t r w : Float} {place : ℕ} →
      t ≡ sum_z xs plane row n x y z k →
      place ≡ z.at k →
      w ≡ z.weight k →
      r ≡ sum_y xs plane row n x y place w t n →
      r ≡ sum_z xs plane row n x y z (k + 1)
  unfolding sum_z
  turn_z z k e f g q = q ∙ (λ i. sum_y xs plane row n x y (f i) (g i) (e i) n) ∙ rw add-one

  -- where z stands in a table
  pub turn_z_tabled :
      (table : Table) (o l k : ℕ) {t r w : Float} {place : ℕ} →
      t ≡ sum_z xs plane row n x y (column table (o + l)) k →
      place ≡ get_or table.at (k * 4096 + o + l) 0 →
      w ≡ get_or table.weight (k * 4096 + o + l) nan →
      r ≡ sum_y xs plane row n x y place w t n →
      r ≡ sum_z xs plane row n x y (column table (o + l)) (k + 1)
  turn_z_tabled table o l k e f g q =
      let m = add_assoc (k * 4096) o l in
      turn_z (column table (o + l)) k e (rw m at f) (rw m at g) q
