-- "Both sides: order 5 taken, 6 refused; axis 2 and 4,096 taken, 1 and 4,097 refused; shift 1,048,575.5 taken, 1,048,576 refused; size 2^100 taken." #106: "3 is now length 0 or above 4,096"; "12, a length-1 axis with another shift or a zoom to other than 1". And both sides of every other limit, as one table.
use Rattle.std.specs.Prelude.{◌+◌, ◌^◌, Bool, true, false, not, List, [], ◌∷◌, Float}
use Rattle.std.specs.Float.{nan, inf, binary64}
use Rattle.std.specs.Float.Ieee.{neg, of_bits}
use Rattle.exact.specs.Rounded.{◌⊕◌, ◌⊘◌, num, half}
use Rattle.border.specs.declared.BorderMode.TheVariants.{Constant, Mirror, Nearest, Reflect, Wrap, Replicate}
use Rattle.axis.specs.Coordinate.{shift_axis}
use Rattle.axis.specs.Length.{output_length}
use Rattle.axis.specs.Point.{some_beside}
use Rattle.request.specs.Conditions.{bad_order, bad_filter_order, bad_axis_number, bad_length, bad_shift, bad_zoom, too_large, wrong, too_short, wild, wild_fill, bad_index, moves_slice, zooms_slice, bad_output}

-- what a test says, and whether it is to refuse
pub data Side : Type 0 where
  taken refused : Bool → Side

abbrev pub right : Side → Bool
right (taken test) = not test
right (refused test) = test

-- the least number above 0, and the next above 4,096 and above 2^100
abbrev least : Float
least = of_bits binary64 1

abbrev past4096 : Float
past4096 = num (2 ^ 52 + 1) ⊘ num (2 ^ 40)

-- the next above 0.5, and the next below 1.5
abbrev past_half : Float
past_half = of_bits binary64 0x3fe0_0000_0000_0001

abbrev before_one_and_half : Float
before_one_and_half = of_bits binary64 0x3ff7_ffff_ffff_ffff

abbrev past100 : Float
past100 = num (2 ^ 100 + 2 ^ 48)

unfoldable pub sides : List Side
unfolding output_length some_beside
sides =
    -- 1
    taken (bad_order 0) ∷ taken (bad_order 5) ∷ refused (bad_order 6)
    ∷ refused (bad_filter_order 1) ∷ taken (bad_filter_order 2) ∷ taken (bad_filter_order 5) ∷ refused (bad_filter_order 6)
    -- 2
    ∷ taken (bad_axis_number 2) ∷ refused (bad_axis_number 3)
    -- 3
    ∷ refused (bad_length 0) ∷ taken (bad_length 1) ∷ taken (bad_length 2) ∷ taken (bad_length 4096) ∷ refused (bad_length 4097)
    -- 4, of shift and of zoom
    ∷ taken (bad_shift (num 1048575 ⊕ half)) ∷ refused (bad_shift (num 1048576)) ∷ taken (bad_shift (neg (num 1048575 ⊕ half))) ∷ refused (bad_shift (neg (num 1048576)))
    ∷ refused (bad_shift nan) ∷ refused (bad_shift (inf false)) ∷ refused (bad_shift (inf true))
    ∷ refused (bad_zoom (num 0)) ∷ refused (bad_zoom (neg (num 0))) ∷ taken (bad_zoom least) ∷ refused (bad_zoom (neg least)) ∷ taken (bad_zoom (num 4096)) ∷ refused (bad_zoom past4096)
    ∷ refused (bad_zoom nan) ∷ refused (bad_zoom (inf false)) ∷ refused (bad_zoom (inf true))
    -- 12, of shift and of zoom: either zero, and the numbers next to 0.5 and 1.5
    ∷ taken (moves_slice 1 (num 0)) ∷ taken (moves_slice 1 (neg (num 0))) ∷ refused (moves_slice 1 least) ∷ refused (moves_slice 1 (neg least)) ∷ taken (moves_slice 2 least)
    ∷ refused (zooms_slice 1 (output_length 1 half)) ∷ taken (zooms_slice 1 (output_length 1 past_half)) ∷ taken (zooms_slice 1 (output_length 1 (num 1)))
    ∷ taken (zooms_slice 1 (output_length 1 before_one_and_half)) ∷ refused (zooms_slice 1 (output_length 1 (num 1 ⊕ half))) ∷ taken (zooms_slice 2 (output_length 2 half))
    -- 5, which does not speak of an axis of length 1
    ∷ refused (bad_output 2 (output_length 2 half)) ∷ taken (bad_output 3 (output_length 3 half)) ∷ taken (bad_output 2048 (output_length 2048 (num 2))) ∷ refused (bad_output 2048 (output_length 2048 (num 4097 ⊘ num 2048)))
    ∷ taken (bad_output 1 (output_length 1 half)) ∷ taken (bad_output 1 (output_length 1 (num 1)))
    -- 6
    ∷ taken (too_large (2 ^ 27)) ∷ refused (too_large (2 ^ 27 + 1))
    -- 7
    ∷ refused (wrong 7 8) ∷ taken (wrong 8 8) ∷ refused (wrong 9 8) ∷ refused (too_short 7 8) ∷ taken (too_short 8 8) ∷ taken (too_short 9 8)
    -- 8
    ∷ taken (wild (num (2 ^ 100))) ∷ refused (wild past100) ∷ taken (wild (neg (num (2 ^ 100)))) ∷ refused (wild (neg past100))
    ∷ refused (wild nan) ∷ refused (wild (inf false)) ∷ refused (wild (inf true)) ∷ refused (wild_fill (Constant nan)) ∷ taken (wild_fill Mirror) ∷ taken (wild_fill Nearest) ∷ taken (wild_fill Reflect) ∷ taken (wild_fill Wrap) ∷ taken (wild_fill Replicate)
    -- 9
    ∷ refused (some_beside (Constant (num 0)) (shift_axis 4 (neg half) 0)) ∷ taken (some_beside (Constant (num 0)) (shift_axis 4 half 0)) ∷ taken (some_beside (Constant (num 0)) (shift_axis 4 (neg (num 1)) 0)) ∷ refused (some_beside Nearest (shift_axis 4 (neg half) 0)) ∷ taken (some_beside Replicate (shift_axis 4 (neg half) 0))
    -- 11
    ∷ taken (bad_index 4 0) ∷ taken (bad_index 4 3) ∷ refused (bad_index 4 4)
    ∷ []
