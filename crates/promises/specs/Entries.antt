-- The four entries, two by two: what is promised of `shift` and of `zoom` is one statement, and so with the filters.
use Rattle.std.specs.Prelude.{ℕ, Bool, List, [], ◌∷◌, get_or, Float}
use Rattle.std.specs.Float.{nan}
use Rattle.border.specs.declared.BorderMode.{BorderMode}
use Rattle.axis.specs.declared.coordinate.Axis.{Axis}
use Rattle.axis.specs.Coordinate.{shift_axis, zoom_axis}
use Rattle.axis.specs.Length.{output_length}
use Rattle.request.specs.declared.Axes.{Axes}
use Rattle.request.specs.declared.Request.{Request}
use Rattle.request.specs.Sizes.{padding, shift_axes, zoom_axes}
use Rattle.refusal.specs.declared.Asked.TheVariants.{Volume}
use Rattle.refusal.specs.Refusals.{Check, shift_checks, zoom_checks, shift_voxel_checks, zoom_voxel_checks, shift_point_checks, zoom_point_checks, spline_filter_checks, spline_filter1d_checks}
use Rattle.resample.specs.Call.{Call, shift_call, zoom_call, FilterCall, spline_filter_call, spline_filter1d_call}
use Rattle.one_voxel.specs.Call.{VoxelCall, shift_voxel_call, zoom_voxel_call}
use Rattle.one_voxel.specs.Points.{PointCall, shift_point_call, zoom_point_call}

pub data Entry : Type 0 where
  shifting : Entry
  zooming : Entry

-- of a request and the four lent buffers: input, output, coverage, work
abbrev pub call : Entry → Request → List Float → List Float → List ℕ → List Float → Call
call shifting = shift_call
call zooming = zoom_call

-- of a request, the input and the lengths of the other three
abbrev pub checks : Entry → Request → List Float → ℕ → ℕ → ℕ → List Check
checks shifting = shift_checks Volume
checks zooming = zoom_checks Volume

abbrev pub axes_of : Entry → Request → Axes
axes_of shifting = shift_axes
axes_of zooming = zoom_axes

-- axis c of the three
abbrev pub axis_at : Entry → Request → ℕ → Axis
axis_at shifting r c = shift_axis (get_or r.dims c 0) (get_or r.factors c nan) (padding r c)
axis_at zooming r c = zoom_axis (get_or r.dims c 0) (output_length (get_or r.dims c 0) (get_or r.factors c nan)) (padding r c)

-- the output lengths
abbrev pub output_dims : Entry → Request → List ℕ
output_dims e r = (axes_of e r).x.out ∷ (axes_of e r).y.out ∷ (axes_of e r).z.out ∷ []

-- one voxel (#105), of a request, the input, work, an index for each axis, and the places lent for value and code
abbrev pub voxel_call : Entry → Request → List Float → List Float → List ℕ → List Float → List ℕ → VoxelCall
voxel_call shifting = shift_voxel_call
voxel_call zooming = zoom_voxel_call

abbrev pub voxel_checks : Entry → Request → List Float → ℕ → ℕ → ℕ → List ℕ → List Check
voxel_checks shifting = shift_voxel_checks
voxel_checks zooming = zoom_voxel_checks

-- the record of one axis (#105), of its length and factor, order, prefilter, mode and an output index, and the places lent for the coordinate, neighbours and weights
abbrev pub point_call : Entry → ℕ → Float → ℕ → Bool → BorderMode → ℕ → List Float → List ℕ → List Float → PointCall
point_call shifting = shift_point_call
point_call zooming = zoom_point_call

abbrev pub point_checks : Entry → ℕ → Float → ℕ → Bool → BorderMode → ℕ → ℕ → ℕ → ℕ → List Check
point_checks shifting = shift_point_checks
point_checks zooming = zoom_point_checks

pub data Filter : Type 0 where
  whole : Filter
  along : ℕ → Filter

abbrev pub filter_call : Filter → Request → List Float → List Float → FilterCall
filter_call whole r = spline_filter_call r
filter_call (along axis) r = spline_filter1d_call r axis

abbrev pub filter_checks : Filter → Request → List Float → ℕ → List Check
filter_checks whole r = spline_filter_checks r
filter_checks (along axis) r = spline_filter1d_checks r axis
