-- "Volumes are flat f64 buffers, last index fastest. Input, output and coverage have exactly their voxel count. Work has at least its needed count: 0 if prefilter is off or the order is below 2, else the input count, or in Nearest the count with 24 added to each axis." In Replicate as in Nearest (#104). #106: "the work count adds no 24 there", on an axis of length 1.
use Rattle.std.specs.Prelude.{ℕ, ◌+◌, ◌*◌, Bool, ◌&&◌, cond, List, [], ◌∷◌, ltb, get_or}
use Rattle.std.specs.Float.{nan}
use Rattle.axis.specs.declared.coordinate.Axis.{Axis}
use Rattle.axis.specs.Coordinate.{has_pad, pad_of, shift_axis, zoom_axis}
use Rattle.axis.specs.Length.{output_length}
use Rattle.prefilter.specs.Volume.{count_of}
use Rattle.request.specs.declared.Axes.{Axes}
use Rattle.request.specs.declared.Request.{Request}

-- whether the sums read filtered coefficients
abbrev pub filters : Request → Bool
filters r = r.prefilter && ltb 1 r.order

-- whether they read edge copies
abbrev pub edges : Request → Bool
edges r = has_pad r.mode r.prefilter r.order

-- how many, on each side of axis i
abbrev pub padding : Request → ℕ → ℕ
padding r i = pad_of r.mode r.prefilter r.order (get_or r.dims i 0)

abbrev pub source_length : Request → ℕ → ℕ
source_length r i = get_or r.dims i 0 + 2 * padding r i

-- the lengths of what the sums read
abbrev pub source_dims : Request → List ℕ
source_dims r = source_length r 0 ∷ source_length r 1 ∷ source_length r 2 ∷ []

abbrev pub needed : Request → ℕ
needed r = cond (filters r) (count_of (source_dims r)) 0

-- the output lengths of zoom; those of shift are the input's
abbrev pub zoom_dims : Request → List ℕ
zoom_dims r = output_length (get_or r.dims 0 0) (get_or r.factors 0 nan) ∷ output_length (get_or r.dims 1 0) (get_or r.factors 1 nan) ∷ output_length (get_or r.dims 2 0) (get_or r.factors 2 nan) ∷ []

-- the three axes: from here on nobody knows which entry was called
abbrev pub shift_axes : Request → Axes
shift_axes r =
    let axis : ℕ → Axis = λ i. shift_axis (get_or r.dims i 0) (get_or r.factors i nan) (padding r i) in
    record { x = axis 0; y = axis 1; z = axis 2 }

abbrev pub zoom_axes : Request → Axes
zoom_axes r =
    let axis : ℕ → Axis = λ i. zoom_axis (get_or r.dims i 0) (get_or (zoom_dims r) i 0) (padding r i) in
    record { x = axis 0; y = axis 1; z = axis 2 }
