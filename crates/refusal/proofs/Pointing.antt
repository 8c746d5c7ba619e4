-- What follows where the record of one axis is not refused: the axis can be reached at the index, and the buffers have their lengths.
use Prim.Native.Nat.{ℕ, ◌≤◌}
use mathlib.Core.Path.{◌≡◌, refl}
use mathlib.Core.Bool.{Bool, ◌||◌}
use lib.Ieee.{Float}
use borrow.Author.Tests.{ltb-false, leb-false}
use Rattle.limits.specs.Limits.{longest}
use Rattle.border.specs.declared.BorderMode.{BorderMode}
use Rattle.axis.specs.declared.coordinate.Axis.{Axis}
use Rattle.axis.specs.Coordinate.{pad_of, shift_axis, zoom_axis}
use Rattle.axis.specs.Length.{output_length}
use Rattle.axis.specs.Bookkeeping.{Zooms, Reached, Reaches}
use Rattle.axis.proofs.Coordinates.{pad_most}
use Rattle.std.proofs.lemmas.Bool.{or_parts}
use Rattle.request.specs.Conditions.{wrong}
use Rattle.request.proofs.Requests.{good_length, good_output, good_zoom}
use Rattle.refusal.specs.Refusals.{first, point_checks, shift_point_checks, zoom_point_checks}
use Rattle.refusal.proofs.Firsts.{Clear, all_clear}
use Rattle.refusal.proofs.Admitting.{good_shift, shift_axis_reaches, zoom_axis_reaches, right}
use Rattle.std.specs.Prelude.{Ok}

-- of an axis of n voxels
pub record Noted (n order : ℕ) (a : Axis) (i coordinate at weight : ℕ) : Type 0 where
  pub least : 1 ≤ n
  pub most : n ≤ longest
  pub reached : Reached order a i
  pub one : coordinate ≡ 1
  pub neighbours : at ≡ 6
  pub weights : weight ≡ 6

module _ (n : ℕ) (factor : Float) (order : ℕ) (prefilter : Bool) (mode : BorderMode) (i coordinate at weight : ℕ) where
  noted : (a : Axis) → (1 ≤ n) × (n ≤ longest) → Reaches order a → Clear (point_checks order mode a i coordinate at weight) → Noted n order a i coordinate at weight
  noted a l r h =
      let w = or_parts (wrong coordinate 1 || wrong at 6) (wrong weight 6) h.0 in
      let v = or_parts (wrong coordinate 1) (wrong at 6) w.0 in
      record { least = l.0; most = l.1; reached = r.each i (leb-false a.out i h.1.1.0); one = right _ _ v.0; neighbours = right _ _ v.1; weights = right _ _ w.1 }

  abbrev pad : ℕ
  pad = pad_of mode prefilter order n

  pub shift_point_passes : first (shift_point_checks n factor order prefilter mode i coordinate at weight) ≡ Ok tt → Noted n order (shift_axis n factor (pad_of mode prefilter order n)) i coordinate at weight
  shift_point_passes e =
      let h = all_clear (shift_point_checks n factor order prefilter mode i coordinate at weight) e in
      let l = good_length n h.1.0 in
      noted (shift_axis n factor pad) l (shift_axis_reaches order n pad (ltb-false 5 order h.0) l.0 l.1 (pad_most mode prefilter order n refl) factor (good_shift factor h.1.1.0)) h.1.1.1.1

  pub zoom_point_passes : first (zoom_point_checks n factor order prefilter mode i coordinate at weight) ≡ Ok tt → Noted n order (zoom_axis n (output_length n factor) (pad_of mode prefilter order n)) i coordinate at weight
  zoom_point_passes e =
      let h = all_clear (zoom_point_checks n factor order prefilter mode i coordinate at weight) e in
      let l = good_length n h.1.0 in
      let o = good_output n (output_length n factor) h.1.1.1.0 h.1.1.1.1.0 in
      noted (zoom_axis n (output_length n factor) pad) l (zoom_axis_reaches order n pad (ltb-false 5 order h.0) l.0 l.1 (pad_most mode prefilter order n refl) (output_length n factor) o.1 o.0.1) h.1.1.1.1.1

  -- zoom's output length is a whole number, and a length
  pub zoom_point_ready : first (zoom_point_checks n factor order prefilter mode i coordinate at weight) ≡ Ok tt → Zooms n factor × (1 ≤ output_length n factor)
  zoom_point_ready e =
      let h = all_clear (zoom_point_checks n factor order prefilter mode i coordinate at weight) e in
      (good_zoom n factor h.1.0 h.1.1.0, (good_output n (output_length n factor) h.1.1.1.0 h.1.1.1.1.0).0.0)
