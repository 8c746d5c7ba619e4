-- "Checked in this order; the first that applies is given, and a refusal is given only then."
use Rattle.std.specs.Prelude.{ℕ, Bool, ◌&&◌, ◌||◌, cond, List, [], ◌∷◌, ◌++◌, eqb, length, Float, Result, Ok, Err, ⊤}
use Rattle.border.specs.declared.BorderMode.{BorderMode}
use Rattle.axis.specs.declared.coordinate.Axis.{Axis}
use Rattle.axis.specs.Coordinate.{pad_of, shift_axis, zoom_axis}
use Rattle.axis.specs.Length.{output_length}
use Rattle.axis.specs.Point.{some_beside}
use Rattle.prefilter.specs.Volume.{count_of}
use Rattle.request.specs.declared.Axes.{Axes}
use Rattle.request.specs.declared.Request.{Request}
use Rattle.request.specs.Sizes.{needed, zoom_dims, shift_axes, zoom_axes}
use Rattle.request.specs.Conditions.{bad_order, bad_filter_order, bad_axis_number, bad_length, bad_lengths, bad_shift, bad_zoom, bad_factors, moves_slice, moves_slices, zooms_slice, zooms_slices, bad_output, bad_outputs, too_large, wrong, too_short, wild_fill, some_wild, beside_any, bad_index, bad_indices}
use Rattle.refusal.specs.declared.Asked.{Asked}
use Rattle.refusal.specs.declared.Asked.TheVariants.{Volume, Voxel}
use Rattle.refusal.specs.declared.Refusal.{Refusal}
use Rattle.refusal.specs.declared.Refusal.TheVariants.{NotNpy, Order, AxisNumber, Length, Factor, Slice, OutputLength, Count, Buffer, Value, Beside, Index}

-- document 01's numbers, and document 02's
abbrev pub number_of : Refusal → ℕ
number_of NotNpy = 10
number_of Order = 1
number_of AxisNumber = 2
number_of Length = 3
number_of Factor = 4
number_of Slice = 12
number_of OutputLength = 5
number_of Count = 6
number_of Buffer = 7
number_of Value = 8
number_of Beside = 9
number_of Index = 11

-- ---- the first of a list that applies
pub record Check : Type 0 where
  pub says : Refusal
  pub applies : Bool

abbrev pub when : Refusal → Bool → Check
when says applies = record { says = says; applies = applies }

abbrev pub first : List Check → Result ⊤ Refusal
first [] = Ok tt
first (c ∷ cs) = cond c.applies (Err c.says) (first cs)

-- the number of an answer, 0 where nothing is refused
abbrev pub number_in : {T : Type 0} → Result T Refusal → ℕ
number_in (Ok value) = 0
number_in (Err why) = number_of why

-- ---- what each entry checks. `output`, `coverage` and `work` are the lengths of these buffers.
abbrev pub value_check : BorderMode → List Float → Check
value_check mode input = when Value (wild_fill mode || some_wild input)

-- the places of output and of coverage: as many as the output has voxels, or one (#105)
abbrev pub places_of : Asked → ℕ → ℕ
places_of Volume count = count
places_of Voxel count = 1

-- shift and zoom alike, from 6 on: with the output lengths and the axes
abbrev pub resample_checks : Asked → Request → List Float → ℕ → ℕ → ℕ → List ℕ → Axes → List Check
resample_checks asked r input output coverage work out a =
    when Count (too_large (count_of r.dims) || too_large (count_of out) || too_large (needed r))
    ∷ when Buffer (wrong (length input) (count_of r.dims) || wrong output (places_of asked (count_of out)) || wrong coverage (places_of asked (count_of out)) || too_short work (needed r))
    ∷ value_check r.mode input
    ∷ when Beside (beside_any r a)
    ∷ []

-- #106: "12, a length-1 axis with another shift or a zoom to other than 1, directly after 4"
abbrev pub shift_checks : Asked → Request → List Float → ℕ → ℕ → ℕ → List Check
shift_checks asked r input output coverage work =
    when Order (bad_order r.order)
    ∷ when Length (bad_lengths r.dims)
    ∷ when Factor (bad_factors bad_shift r.factors)
    ∷ when Slice (moves_slices r.dims r.factors)
    ∷ resample_checks asked r input output coverage work r.dims (shift_axes r)

abbrev pub zoom_checks : Asked → Request → List Float → ℕ → ℕ → ℕ → List Check
zoom_checks asked r input output coverage work =
    when Order (bad_order r.order)
    ∷ when Length (bad_lengths r.dims)
    ∷ when Factor (bad_factors bad_zoom r.factors)
    ∷ when Slice (zooms_slices r.dims (zoom_dims r))
    ∷ when OutputLength (bad_outputs r.dims (zoom_dims r))
    ∷ resample_checks asked r input output coverage work (zoom_dims r) (zoom_axes r)

-- #105: "Refusals: 11, output index outside the output, after 01's nine." `value` and `code` are lengths too, `at` has an index for each axis.
abbrev pub index_checks : List ℕ → List ℕ → List Check
index_checks out at = when Index (bad_indices out at) ∷ []

abbrev pub shift_voxel_checks : Request → List Float → ℕ → ℕ → ℕ → List ℕ → List Check
shift_voxel_checks r input value code work at = shift_checks Voxel r input value code work ++ index_checks r.dims at

abbrev pub zoom_voxel_checks : Request → List Float → ℕ → ℕ → ℕ → List ℕ → List Check
zoom_voxel_checks r input value code work at = zoom_checks Voxel r input value code work ++ index_checks (zoom_dims r) at

-- #105, the record of one axis: `coordinate`, `at` and `weight` are lengths too. Shift and zoom alike, from 7 on: with the axis and one output index
abbrev pub point_checks : ℕ → BorderMode → Axis → ℕ → ℕ → ℕ → ℕ → List Check
point_checks order mode a i coordinate at weight =
    when Buffer (wrong coordinate 1 || wrong at 6 || wrong weight 6)
    ∷ when Beside (eqb order 0 && some_beside mode a)
    ∷ when Index (bad_index a.out i)
    ∷ []

abbrev pub shift_point_checks : ℕ → Float → ℕ → Bool → BorderMode → ℕ → ℕ → ℕ → ℕ → List Check
shift_point_checks n shift order prefilter mode i coordinate at weight =
    when Order (bad_order order)
    ∷ when Length (bad_length n)
    ∷ when Factor (bad_shift shift)
    ∷ when Slice (moves_slice n shift)
    ∷ point_checks order mode (shift_axis n shift (pad_of mode prefilter order n)) i coordinate at weight

abbrev pub zoom_point_checks : ℕ → Float → ℕ → Bool → BorderMode → ℕ → ℕ → ℕ → ℕ → List Check
zoom_point_checks n factor order prefilter mode i coordinate at weight =
    when Order (bad_order order)
    ∷ when Length (bad_length n)
    ∷ when Factor (bad_zoom factor)
    ∷ when Slice (zooms_slice n (output_length n factor))
    ∷ when OutputLength (bad_output n (output_length n factor))
    ∷ point_checks order mode (zoom_axis n (output_length n factor) (pad_of mode prefilter order n)) i coordinate at weight

-- "The filters check 1, 2, 3, 6, 7, 8; a Constant fill is checked there too though unused": from 3 on alike
abbrev pub filter_checks : Request → List Float → ℕ → List Check
filter_checks r input output =
    when Length (bad_lengths r.dims)
    ∷ when Count (too_large (count_of r.dims))
    ∷ when Buffer (wrong (length input) (count_of r.dims) || wrong output (count_of r.dims))
    ∷ value_check r.mode input
    ∷ []

abbrev pub spline_filter_checks : Request → List Float → ℕ → List Check
spline_filter_checks r input output = when Order (bad_filter_order r.order) ∷ filter_checks r input output

abbrev pub spline_filter1d_checks : Request → ℕ → List Float → ℕ → List Check
spline_filter1d_checks r axis input output = when Order (bad_order r.order) ∷ when AxisNumber (bad_axis_number axis) ∷ filter_checks r input output
