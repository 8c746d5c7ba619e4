-- "Nine ways to say no": what each refusal is given for, in document 01's words; and in document 02's.
use Rattle.std.specs.Prelude.{ℕ, ◌^◌, Bool, false, not, ◌&&◌, ◌||◌, List, leb, ltb, eqb, length, get_or, Float}
use Rattle.std.specs.Float.{nan}
use Rattle.std.specs.Float.Ieee.{neg, lt, le, eq}
use Rattle.exact.specs.Rounded.{num}
use Rattle.limits.specs.Limits.{longest, single, most_places}
use Rattle.lists.specs.Some.{some_below}
use Rattle.border.specs.declared.BorderMode.{BorderMode}
use Rattle.border.specs.declared.BorderMode.TheVariants.{Constant, Mirror, Nearest, Reflect, Wrap, Replicate}
use Rattle.axis.specs.Point.{some_beside}
use Rattle.request.specs.declared.Axes.{Axes}
use Rattle.request.specs.declared.Request.{Request}

-- "order above 5; for `spline_filter` also order 0 or 1"
abbrev pub bad_order : ℕ → Bool
bad_order order = ltb 5 order

abbrev pub bad_filter_order : ℕ → Bool
bad_filter_order order = ltb order 2 || ltb 5 order

-- "`spline_filter1d` is given an axis number above 2"
abbrev pub bad_axis_number : ℕ → Bool
bad_axis_number axis = ltb 2 axis

-- #106: "3 is now length 0 or above 4,096"
abbrev pub bad_length : ℕ → Bool
bad_length n = ltb n 1 || ltb longest n

unfoldable pub bad_lengths : List ℕ → Bool
unfolding some_below
bad_lengths d = some_below (λ i. bad_length (get_or d i 0)) 3

-- "a shift is not finite or its size is 2^20 or more"
abbrev pub bad_shift : Float → Bool
bad_shift s = not (lt (neg (num (2 ^ 20))) s && lt s (num (2 ^ 20)))

-- "a zoom factor is not finite, not above 0, or above 4,096"
abbrev pub bad_zoom : Float → Bool
bad_zoom f = not (lt (num 0) f && le f (num 4096))

unfoldable pub bad_factors : (Float → Bool) → List Float → Bool
unfolding some_below
bad_factors bad f = some_below (λ i. bad (get_or f i nan)) 3

-- #106: "12, a length-1 axis with another shift", than "shift 0 (either zero)", "or a zoom to other than 1"
abbrev pub moves_slice : ℕ → Float → Bool
moves_slice n shift = single n && not (eq shift (num 0))

unfoldable pub moves_slices : List ℕ → List Float → Bool
unfolding some_below
moves_slices d f = some_below (λ i. moves_slice (get_or d i 0) (get_or f i nan)) 3

abbrev pub zooms_slice : ℕ → ℕ → Bool
zooms_slice n out = single n && not (eqb out 1)

unfoldable pub zooms_slices : List ℕ → List ℕ → Bool
unfolding some_below
zooms_slices d out = some_below (λ i. zooms_slice (get_or d i 0) (get_or out i 0)) 3

-- "an output axis below 2 or above 4,096"; "Refusal 5 no longer speaks of such an axis" (#106), one of length 1
abbrev pub bad_output : ℕ → ℕ → Bool
bad_output n out = not (single n) && (ltb out 2 || ltb longest out)

unfoldable pub bad_outputs : List ℕ → List ℕ → Bool
unfolding some_below
bad_outputs d out = some_below (λ i. bad_output (get_or d i 0) (get_or out i 0)) 3

-- "input count, output count or needed work count exceeds 2^27"
abbrev pub too_large : ℕ → Bool
too_large n = ltb most_places n

-- "a lent buffer has the wrong length"
abbrev pub wrong : ℕ → ℕ → Bool
wrong length count = not (eqb length count)

abbrev pub too_short : ℕ → ℕ → Bool
too_short length count = ltb length count

-- "a fill or an input voxel is not finite or its size exceeds 2^100"
abbrev pub wild : Float → Bool
wild v = not (le (neg (num (2 ^ 100))) v && le v (num (2 ^ 100)))

abbrev pub wild_fill : BorderMode → Bool
wild_fill (Constant fill) = wild fill
wild_fill Mirror = false
wild_fill Nearest = false
wild_fill Reflect = false
wild_fill Wrap = false
wild_fill Replicate = false

unfoldable pub some_wild : List Float → Bool
unfolding some_below
some_wild input = some_below (λ i. wild (get_or input i nan)) (length input)

-- "at order 0 some axis has a coordinate that is kept but rounds to an index outside that axis"
unfoldable pub beside_any : Request → Axes → Bool
unfolding some_beside
beside_any r a = eqb r.order 0 && (some_beside r.mode a.x || some_beside r.mode a.y || some_beside r.mode a.z)

-- #105: "output index outside the output"
abbrev pub bad_index : ℕ → ℕ → Bool
bad_index out i = leb out i

unfoldable pub bad_indices : List ℕ → List ℕ → Bool
unfolding some_below
bad_indices out at = some_below (λ i. bad_index (get_or out i 0) (get_or at i 0)) 3
