-- "Prefilter: axes 0, 1, 2 in turn." The axes of a volume, and the filter along them.
use Rattle.std.specs.Prelude.{ℕ, ◌*◌, List, cond, eqb, get_or, Float}
use Rattle.limits.specs.Limits.{single}
use Rattle.border.specs.declared.BorderMode.{BorderMode}
use Rattle.poles.specs.Poles.{poles_of, gain_of}
use Rattle.lane.specs.Lane.{reflects, filter_lane}
use Rattle.lanes.specs.Along.{filter_along}

-- an axis: its length, and how far apart its numbers stand
abbrev pub length_of : ℕ → List ℕ → ℕ
length_of axis d = get_or d axis 0

abbrev pub stride_of : ℕ → List ℕ → ℕ
stride_of axis d = cond (eqb axis 0) (get_or d 1 0 * get_or d 2 0) (cond (eqb axis 1) (get_or d 2 0) 1)

-- a single slice "is not filtered" (#106): its lanes, of one number each, stay as they are
unfoldable pub filter_axis : BorderMode → ℕ → List ℕ → ℕ → List Float → List Float
unfolding filter_along filter_lane poles_of gain_of
filter_axis mode order d axis xs =
    cond (single (length_of axis d)) xs
    (filter_along (filter_lane (reflects mode) (poles_of order) (gain_of (poles_of order))) (length_of axis d) (stride_of axis d) xs)

unfoldable pub filter_volume : BorderMode → ℕ → List ℕ → List Float → List Float
unfolding filter_axis
filter_volume mode order d xs = filter_axis mode order d 2 (filter_axis mode order d 1 (filter_axis mode order d 0 xs))

abbrev pub count_of : List ℕ → ℕ
count_of d = get_or d 0 0 * (get_or d 1 0 * get_or d 2 0)
