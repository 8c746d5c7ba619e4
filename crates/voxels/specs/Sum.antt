-- "Else start at 0.0 and add voxel times (x weight times (y weight times z weight)), z outermost, x innermost; x, y and z are axes 0, 1 and 2."
-- Neighbours and weights are functions of the neighbour's number k on its axis.
use Rattle.std.specs.Prelude.{ℕ, zero, suc, ◌+◌, ◌*◌, List, get_or, Float}
use Rattle.std.specs.Float.{nan}
use Rattle.exact.specs.Rounded.{◌⊕◌, ◌⊗◌, num}

-- s with one product more: the voxel x, weighed by w and v
abbrev pub term : Float → Float → Float → Float → Float
term s x w v = s ⊕ x ⊗ (w ⊗ v)

-- the neighbours of one axis
pub record Tap : Type 0 where
  pub at : ℕ → ℕ
  pub weight : ℕ → Float

-- those that stand in two lists, neighbour k at place k
abbrev pub lent : List ℕ → List Float → Tap
lent at weight = record { at = λ k. get_or at k 0; weight = λ k. get_or weight k nan }

-- s with the first k products along axis 0: at place `place` of each plane, with the weight v of the other two axes
unfoldable pub sum_x : List Float → ℕ → Tap → ℕ → Float → Float → ℕ → Float
sum_x xs plane x place v s zero = s
sum_x xs plane x place v s (suc k) = term (sum_x xs plane x place v s k) (get_or xs (x.at k * plane + place) nan) (x.weight k) v

-- s with the first k of the sums along axis 1, each of n products: at z in each row, with the weight w of axis 2
unfoldable pub sum_y : List Float → ℕ → ℕ → ℕ → Tap → Tap → ℕ → Float → Float → ℕ → Float
unfolding sum_x
sum_y xs plane row n x y z w s zero = s
sum_y xs plane row n x y z w s (suc k) = sum_x xs plane x (y.at k * row + z) (y.weight k ⊗ w) (sum_y xs plane row n x y z w s k) n

-- the first k of the sums along axis 2, from 0.0 on
unfoldable pub sum_z : List Float → ℕ → ℕ → ℕ → Tap → Tap → Tap → ℕ → Float
unfolding sum_y
sum_z xs plane row n x y z zero = num 0
sum_z xs plane row n x y z (suc k) = sum_y xs plane row n x y (z.at k) (z.weight k) (sum_z xs plane row n x y z k) n

-- the whole sum, n neighbours on each axis
unfoldable pub sum_at : List Float → ℕ → ℕ → ℕ → Tap → Tap → Tap → Float
unfolding sum_z
sum_at xs plane row n x y z = sum_z xs plane row n x y z n
