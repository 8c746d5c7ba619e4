-- The record of one axis: the call, by its verdict, and whatever the fill.
use Prim.Native.Nat.{ℕ}
use mathlib.Core.Path.{◌≡◌, refl, sym, ap, ◌∙◌}
use mathlib.Core.Bool.{Bool}
use mathlib.Core.List.{List, [], ◌∷◌}
use lib.ListN.{length}
use lib.Ieee.{Float}
use Rattle.border.specs.Fold.{fold}
use Rattle.border.specs.declared.BorderMode.{BorderMode}
use Rattle.border.specs.declared.BorderMode.TheVariants.{Constant}
use Rattle.axis.specs.declared.coordinate.Axis.{Axis}
use Rattle.axis.specs.Coordinate.{pad_of, shift_axis, zoom_axis, settled}
use Rattle.axis.specs.Length.{output_length}
use Rattle.axis.specs.Neighbours.{neighbour, neighbour_index}
use Rattle.axis.specs.Point.{neighbours, kept_point, point_at, beside_at, some_beside}
use Rattle.refusal.specs.declared.Refusal.{Refusal}
use Rattle.refusal.specs.Refusals.{first, shift_point_checks, zoom_point_checks}
use Rattle.one_voxel.specs.Points.{point_call_of, point_call_by, shift_point_call, zoom_point_call}
use Rattle.std.specs.Prelude.{Result, Ok, Err, ⊤}

module _ (order : ℕ) (mode : BorderMode) (a : Axis) (i : ℕ) (coordinate : List Float) (at : List ℕ) (weight : List Float) {v : Result ⊤ Refusal} where
  pub point_passed :
      (a' : Axis) {c w : List Float} {n : List ℕ} → v ≡ Ok tt → a' ≡ a → (c ≡ settled mode a' i ∷ []) × ((n ≡ (point_at order mode a' i).at) × (w ≡ (point_at order mode a' i).weight)) →
      point_call_of (Ok tt) c n w ≡ point_call_by v order mode a i coordinate at weight
  point_passed a' q e h =
      (λ t. point_call_of (Ok tt) (h.0 t) (h.1.0 t) (h.1.1 t))
      ∙ ap (λ (b : Axis). point_call_by (Ok tt) order mode b i coordinate at weight) e
      ∙ ap (λ (u : Result ⊤ Refusal). point_call_by u order mode a i coordinate at weight) (sym q)

  pub point_refused : (why : Refusal) → v ≡ Err why → point_call_of (Err why) coordinate at weight ≡ point_call_by v order mode a i coordinate at weight
  point_refused why q = ap (λ (u : Result ⊤ Refusal). point_call_by u order mode a i coordinate at weight) (sym q)

-- ---- no fill is read: it is the value of a dropped voxel, and a record holds no value
module _ (order : ℕ) (fill other : Float) (i : ℕ) (coordinate : List Float) (at : List ℕ) (weight : List Float) where
  by_verdict : (v : Result ⊤ Refusal) (a : Axis) → point_call_by v order (Constant fill) a i coordinate at weight ≡ point_call_by v order (Constant other) a i coordinate at weight
  unfolding fold settled neighbour neighbour_index neighbours kept_point point_at
  by_verdict (Ok tt) a = refl
  by_verdict (Err why) a = refl

  module _ (n : ℕ) (factor : Float) (prefilter : Bool) where
    pub shift_any_fill : shift_point_call n factor order prefilter (Constant fill) i coordinate at weight ≡ shift_point_call n factor order prefilter (Constant other) i coordinate at weight
    unfolding shift_point_call fold settled beside_at some_beside
    shift_any_fill = by_verdict (first (shift_point_checks n factor order prefilter (Constant fill) i (length coordinate) (length at) (length weight))) (shift_axis n factor (pad_of (Constant fill) prefilter order n))

    pub zoom_any_fill : zoom_point_call n factor order prefilter (Constant fill) i coordinate at weight ≡ zoom_point_call n factor order prefilter (Constant other) i coordinate at weight
    unfolding zoom_point_call fold settled beside_at some_beside
    zoom_any_fill = by_verdict (first (zoom_point_checks n factor order prefilter (Constant fill) i (length coordinate) (length at) (length weight))) (zoom_axis n (output_length n factor) (pad_of (Constant fill) prefilter order n))
