-- #105: "an engine that takes one output index and works out its coordinates, weights and neighbours afresh": those of one axis, for a person who checks a voxel's sum on paper.
use Rattle.std.specs.Prelude.{ℕ, Bool, List, [], ◌∷◌, length, Float}
use Rattle.border.specs.declared.BorderMode.{BorderMode}
use Rattle.axis.specs.declared.coordinate.Axis.{Axis}
use Rattle.axis.specs.Coordinate.{pad_of, shift_axis, zoom_axis, settled}
use Rattle.axis.specs.Length.{output_length}
use Rattle.axis.specs.Point.{point_at}
use Rattle.refusal.specs.Refusals.{first, shift_point_checks, zoom_point_checks}
use Rattle.std.specs.Prelude.{Result, Ok, Err, ⊤}
use Rattle.refusal.specs.declared.Refusal.{Refusal}

-- a call: the verdict, and what the places lent for the coordinate, for six neighbours and for six weights then hold
pub record PointCall : Type 0 where
  pub answer : Result ⊤ Refusal
  pub coordinate : List Float
  pub at : List ℕ
  pub weight : List Float

abbrev pub point_call_of : Result ⊤ Refusal → List Float → List ℕ → List Float → PointCall
point_call_of answer coordinate at weight = record { answer = answer; coordinate = coordinate; at = at; weight = weight }

-- the settled coordinate, of which the mark is made, and the record's neighbours and weights: places of what the sums read, pads included
abbrev pub point_call_by : Result ⊤ Refusal → ℕ → BorderMode → Axis → ℕ → List Float → List ℕ → List Float → PointCall
point_call_by (Ok tt) order mode a i coordinate at weight = point_call_of (Ok tt) (settled mode a i ∷ []) (point_at order mode a i).at (point_at order mode a i).weight
point_call_by (Err why) order mode a i coordinate at weight = point_call_of (Err why) coordinate at weight

-- of an axis of n voxels
unfoldable pub shift_point_call : ℕ → Float → ℕ → Bool → BorderMode → ℕ → List Float → List ℕ → List Float → PointCall
unfolding settled point_at
shift_point_call n shift order prefilter mode i coordinate at weight = point_call_by (first (shift_point_checks n shift order prefilter mode i (length coordinate) (length at) (length weight))) order mode (shift_axis n shift (pad_of mode prefilter order n)) i coordinate at weight

unfoldable pub zoom_point_call : ℕ → Float → ℕ → Bool → BorderMode → ℕ → List Float → List ℕ → List Float → PointCall
unfolding settled point_at
zoom_point_call n factor order prefilter mode i coordinate at weight = point_call_by (first (zoom_point_checks n factor order prefilter mode i (length coordinate) (length at) (length weight))) order mode (zoom_axis n (output_length n factor) (pad_of mode prefilter order n)) i coordinate at weight
