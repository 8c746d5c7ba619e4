-- "A refusal returns its number and counts 0, 0, 0; output, coverage and work hold what they held. Success returns the three counts and writes output and coverage fully. Work then begins with the filtered coefficients (needed count); the rest is untouched." #103: "The counts become four everywhere, refusals included, and the sum rule covers four."
use Rattle.std.specs.Prelude.{ℕ, cond, List, ◌++◌, ltb, length, drop, Float}
use Rattle.edge.specs.Edge.{padded}
use Rattle.prefilter.specs.Volume.{filter_axis, filter_volume}
use Rattle.coverage.specs.declared.counts.Counts.{Counts}
use Rattle.refusal.specs.declared.Asked.TheVariants.{Volume}
use Rattle.request.specs.declared.Axes.{Axes}
use Rattle.request.specs.declared.Request.{Request}
use Rattle.request.specs.Sizes.{filters, edges, source_dims, needed, shift_axes, zoom_axes}
use Rattle.refusal.specs.Refusals.{first, shift_checks, zoom_checks, spline_filter_checks, spline_filter1d_checks}
use Rattle.coverage.specs.Coverage.{own_codes, counts_of, none}
use Rattle.voxels.specs.Voxel.{values}
use Rattle.std.specs.Prelude.{Result, Ok, Err, ⊤}
use Rattle.refusal.specs.declared.Refusal.{Refusal}

-- ---- what the sums read: "Nearest in `shift` and `zoom` first pads"; so does Replicate
unfoldable pub source_of : Request → List Float → List Float
unfolding padded
source_of r input = cond (edges r) (padded r.dims input) input

unfoldable pub coefficients : Request → List Float → List Float
unfolding source_of filter_volume
coefficients r input = cond (filters r) (filter_volume r.mode r.order (source_dims r) (source_of r input)) input

-- ---- shift and zoom
-- the answer, and what the lent buffers then hold
pub record Call : Type 0 where
  pub answer : Result Counts Refusal
  pub output : List Float
  pub coverage : List ℕ
  pub work : List Float

abbrev pub call_of : Result Counts Refusal → List Float → List ℕ → List Float → Call
call_of answer output coverage work = record { answer = answer; output = output; coverage = coverage; work = work }

abbrev pub values_of : Request → Axes → List Float → List Float
values_of r a input = values r.order r.mode a.x a.y a.z (coefficients r input)

-- the coverage that is written: each voxel's own code
abbrev pub codes_of : Request → Axes → List ℕ
codes_of r a = own_codes r.order r.mode a.x a.y a.z

abbrev pub work_after : Request → List Float → List Float → List Float
work_after r input work = cond (filters r) (coefficients r input ++ drop (needed r) work) work

-- what a success returns and leaves
abbrev pub success : Request → Axes → List Float → List Float → Call
success r a input work = call_of (Ok (counts_of (codes_of r a))) (values_of r a input) (codes_of r a) (work_after r input work)

abbrev pub call_by : Result ⊤ Refusal → Request → Axes → List Float → List Float → List ℕ → List Float → Call
call_by (Ok tt) r a input output coverage work = success r a input work
call_by (Err why) r a input output coverage work = call_of (Err why) output coverage work

unfoldable pub shift_call : Request → List Float → List Float → List ℕ → List Float → Call
shift_call r input output coverage work = call_by (first (shift_checks Volume r input (length output) (length coverage) (length work))) r (shift_axes r) input output coverage work

unfoldable pub zoom_call : Request → List Float → List Float → List ℕ → List Float → Call
zoom_call r input output coverage work = call_by (first (zoom_checks Volume r input (length output) (length coverage) (length work))) r (zoom_axes r) input output coverage work

-- document 01's counts of an answer
abbrev pub counts_in : Result Counts Refusal → Counts
counts_in (Ok counts) = counts
counts_in (Err why) = none

-- ---- the two filters: the verdict is their answer
pub record FilterCall : Type 0 where
  pub answer : Result ⊤ Refusal
  pub output : List Float

abbrev pub filter_call_of : Result ⊤ Refusal → List Float → FilterCall
filter_call_of answer output = record { answer = answer; output = output }

abbrev pub filter_call_by : Result ⊤ Refusal → List Float → List Float → FilterCall
filter_call_by (Ok tt) filtered output = filter_call_of (Ok tt) filtered
filter_call_by (Err why) filtered output = filter_call_of (Err why) output

unfoldable pub spline_filter_call : Request → List Float → List Float → FilterCall
unfolding filter_volume
spline_filter_call r input output = filter_call_by (first (spline_filter_checks r input (length output))) (filter_volume r.mode r.order r.dims input) output

-- at orders 0 and 1 there is nothing to filter
unfoldable pub spline_filter1d_call : Request → ℕ → List Float → List Float → FilterCall
unfolding filter_axis
spline_filter1d_call r axis input output = filter_call_by (first (spline_filter1d_checks r axis input (length output))) (cond (ltb 1 r.order) (filter_axis r.mode r.order r.dims axis input) input) output
