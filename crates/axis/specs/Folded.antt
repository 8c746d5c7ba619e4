-- #103: "on some axis a neighbour with a nonzero weight lay outside the unpadded axis before its own fold. A folded neighbour of weight zero stays code 0."
use Rattle.std.specs.Prelude.{◌≡◌, ℕ, ◌+◌, ◌<◌, ◌≤◌, Bool, true, not, ◌&&◌, ◌||◌, pos, slice_index_or, Float}
use Rattle.std.specs.Float.{nan}
use Rattle.std.specs.Float.Ieee.{lt, le, eq}
use Rattle.exact.specs.Rounded.{◌⊕◌, ◌⊖◌, num}
use Rattle.exact.specs.Whole.{Is}
use Rattle.lists.specs.Some.{some_below}
use Rattle.border.specs.declared.BorderMode.{BorderMode}
use Rattle.axis.specs.declared.coordinate.Axis.{Axis}
use Rattle.axis.specs.Coordinate.{settled}
use Rattle.axis.specs.Weights.{order_on, build_splines}
use Rattle.axis.specs.Neighbours.{first_neighbour}

-- at the order that an axis is read at: neighbour k of output index i, its weight in the sum, and where it lies before its own fold
unfoldable pub weight_at : ℕ → BorderMode → Axis → ℕ → ℕ → Float
unfolding settled build_splines
weight_at order mode a i k = slice_index_or (build_splines order (settled mode a i)) k nan

unfoldable pub unfolded_at : ℕ → BorderMode → Axis → ℕ → ℕ → Float
unfolding settled first_neighbour
unfolded_at order mode a i k = first_neighbour order (settled mode a i) ⊕ num k

-- "a nonzero weight": neither 0.0 nor -0.0
abbrev pub weighs : Float → Bool
weighs w = not (eq w (num 0))

-- "outside the unpadded axis", whose voxels stand from the pad on
abbrev pub beyond : Axis → Float → Bool
beyond a x = lt x a.pad || le (num a.len ⊖ a.pad) x

-- neighbour k has a nonzero weight and lies outside
abbrev pub folded_by : ℕ → BorderMode → Axis → ℕ → ℕ → Bool
folded_by order mode a i k = weighs (weight_at order mode a i k) && beyond a (unfolded_at order mode a i k)

-- some neighbour of output index i does
abbrev pub some_folded : ℕ → BorderMode → Axis → ℕ → Bool
some_folded order mode a i = some_below (folded_by order mode a i) (order + 1)

unfoldable pub folded_at : ℕ → BorderMode → Axis → ℕ → Bool
unfolding some_below weight_at unfolded_at
folded_at order mode a i = some_folded (order_on a.len order) mode a i

-- ---- the same in whole numbers: an axis of `length` voxels, which stand from the pad on
-- x is one of its voxels
abbrev pub InAxis : ℕ → ℕ → Float → Type 0
InAxis length pad x = (j : ℕ) × (j < length) × Is x (pos (pad + j))

-- every neighbour with a nonzero weight is
abbrev pub AllInside : ℕ → BorderMode → ℕ → ℕ → Axis → ℕ → Type 0
AllInside order mode length pad a i = (k : ℕ) → k ≤ order → weighs (weight_at order mode a i k) ≡ true → InAxis length pad (unfolded_at order mode a i k)

-- some neighbour with a nonzero weight is not
pub record SomeOutside (order : ℕ) (mode : BorderMode) (length pad : ℕ) (a : Axis) (i : ℕ) : Type 0 where
  pub k : ℕ
  pub upto : k ≤ order
  pub weight : weighs (weight_at order mode a i k) ≡ true
  pub outside : InAxis length pad (unfolded_at order mode a i k) → ⊥
