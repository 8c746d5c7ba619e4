-- "The first neighbour is that floor minus half the order, rounded down. If any of order + 1 neighbours lies outside, all pass through the fold: Mirror for Constant and Wrap, else the mode's own; Nearest clamps to 0 and L - 1." So do those of Replicate (#104).
use Rattle.std.specs.Prelude.{ℕ, ◌/◌, Bool, cond, ◌||◌, Float}
use Rattle.std.specs.Float.Ieee.{lt, le, to_unsigned}
use Rattle.exact.specs.Rounded.{◌⊕◌, ◌⊖◌, num}
use Rattle.border.specs.Fold.{fold}
use Rattle.border.specs.declared.BorderMode.{BorderMode}
use Rattle.border.specs.declared.BorderMode.TheVariants.{Constant, Mirror, Nearest, Reflect, Wrap, Replicate}
use Rattle.axis.specs.Weights.{base}

-- before any fold
unfoldable pub first_neighbour : ℕ → Float → Float
unfolding base
first_neighbour order to = base order to ⊖ num (order / 2)

-- whether one of the order + 1 neighbours from `first` on lies outside an axis of that length
abbrev pub outside : ℕ → ℕ → Float → Bool
outside order len first = lt first (num 0) || le (num len) (first ⊕ num order)

abbrev pub spline_mode : BorderMode → BorderMode
spline_mode (Constant fill) = Mirror
spline_mode Mirror = Mirror
spline_mode Nearest = Nearest
spline_mode Reflect = Reflect
spline_mode Wrap = Mirror
spline_mode Replicate = Nearest

-- the neighbour k places after the first, as a number; `out` says that one of them lies outside
unfoldable pub neighbour : BorderMode → Bool → ℕ → Float → ℕ → Float
unfolding fold
neighbour mode out len first k = cond out (fold (spline_mode mode) (first ⊕ num k) (num len)) (first ⊕ num k)

-- and as an index
unfoldable pub neighbour_index : BorderMode → Bool → ℕ → Float → ℕ → ℕ
unfolding neighbour
neighbour_index mode out len first k = to_unsigned 64 (neighbour mode out len first k)
