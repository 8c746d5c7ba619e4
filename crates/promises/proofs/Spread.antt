-- Zoom spreads its output indices over the input axis: each coordinate lies from 0 up to, not including, the length as padded, so no mode folds it but Replicate, which clamps the last.
use Prim.Native.Nat.{ℕ, ◌+◌, ◌-◌, ◌*◌, ◌/◌, ◌^◌, ◌≤◌, ◌<◌}
use native.Mathlib.Nat.{le_trans, le_of_eq, le_of_lt, mul_comm, mul-add, add-zero, mul-le-mul_right, div-le_self, div-mul-le_self, lt-mul-div-succ}
use native.Mathlib.Omega.{arith}
use mathlib.Core.Path.{◌≡◌, refl, sym, ap, ◌∙◌, subst}
use mathlib.Core.Bool.{false}
use lib.IntN.{pos}
use lib.Dec.{lit≤}
use lib.Ieee.{Float, le}
use Rattle.limits.proofs.Singles.{two_long}
use Rattle.exact.specs.Rounded.{◌⊕◌, ◌⊗◌, ◌⊘◌, num}
use Rattle.exact.proofs.Whole.{add-W}
use Rattle.border.specs.declared.BorderMode.{BorderMode}
use Rattle.border.specs.declared.BorderMode.TheVariants.{Constant, Mirror, Nearest, Reflect, Wrap, Replicate}
use Rattle.border.proofs.Arms.{inside}
use Rattle.axis.specs.declared.coordinate.Axis.{Axis}
use Rattle.axis.specs.Coordinate.{zoom_axis, unpadded, coordinate, folds, settled_by, settled}
use Rattle.axis.proofs.Coordinates.{long_settled}
use Rattle.axis.proofs.Reaches.{zoom_reaches}
use Rattle.exact.proofs.Upto.{Upto, upto_num, upto_sum, upto_multiple, upto_quotient, upto_least, upto_below}
use Rattle.promises.proofs.Spans.{Spans, replicate_spans}

-- what refusals 3, 12 and 5 let pass on an axis that is no single slice, and a pad
pub record Spread (length out pad : ℕ) : Type 0 where
  pub long : 2 ≤ length
  pub short : length ≤ 4096
  pub two : 2 ≤ out
  pub most : out ≤ 4096
  pub small : pad ≤ 12

module _ {length out pad : ℕ} (h : Spread length out pad) (i : ℕ) (l : i < out) where
  abbrev axis : Axis
  axis = zoom_axis length out pad

  -- ---- its coordinates, in units of 2^-14: the ratio is at most one unit above the exact quotient, so no coordinate lies more than 4,095 units past the last voxel, which is less than a quarter
  abbrev whole : ℕ
  whole = (length - 1) * 2 ^ 14

  abbrev units_of_ratio : ℕ
  units_of_ratio = whole / (out - 1) + 1

  ratio_upto : Upto units_of_ratio (num (length - 1) ⊘ num (out - 1))
  ratio_upto =
      upto_quotient (length - 1) (out - 1) units_of_ratio (omega arith) (omega arith) (omega arith) (omega (arith, div-le_self whole (out - 1)))
      (le_trans (le_of_lt (lt-mul-div-succ whole {b = out - 1} (omega arith))) (le_of_eq (mul_comm (out - 1) units_of_ratio)))

  last : i * units_of_ratio ≤ whole + 4095
  last =
      let up : i * units_of_ratio ≤ (out - 1) * units_of_ratio = mul-le-mul_right units_of_ratio (omega arith) in
      omega (arith, mul-add (out - 1) (whole / (out - 1)) 1, mul_comm (out - 1) (whole / (out - 1)), div-mul-le_self whole (out - 1))

  quotient : axis.ratio ≡ num (length - 1) ⊘ num (out - 1)
  quotient = simp (two_long length h.long)

  coordinate_upto : Upto (whole + 4095 + pad * 2 ^ 14) (coordinate axis i)
  unfolding coordinate unpadded
  coordinate_upto =
      let index : num i ≡ num i ⊕ num 0 = ap num (sym (add-zero i)) ∙ sym (add-W (pos i) (pos 0) (omega arith) (lit≤ tt)) in
      upto_sum (subst (λ (x : Float). Upto (whole + 4095) x) (λ t. index t ⊗ sym quotient t) (upto_multiple i (omega arith) ratio_upto last (omega arith))) (upto_num pad (omega arith)) (omega arith)

  -- ---- so it settles where it stands, or in Replicate on the last voxel
  spans : {mode : BorderMode} → coordinate axis i ≡ settled mode axis i → Spans mode axis i
  spans e = record { units = whole + 4095 + pad * 2 ^ 14; upto = subst (λ (x : Float). Upto (whole + 4095 + pad * 2 ^ 14) x) e coordinate_upto; room = omega arith; short = omega arith }

  before_end : le (num axis.len) (coordinate axis i) ≡ false
  before_end = upto_below coordinate_upto axis.len (omega arith) (omega arith)

  unmoved : (mode : BorderMode) → settled_by (folds mode) mode axis i ≡ settled mode axis i
  unmoved mode = sym (long_settled mode axis i (two_long axis.len (omega (arith, h.long))))

  pub zoom_spans : (mode : BorderMode) → Spans mode axis i
  zoom_spans (Constant fill) = spans (inside (Constant fill) (coordinate axis i) (num axis.len) (upto_least coordinate_upto) before_end ∙ unmoved (Constant fill))
  zoom_spans Mirror = spans (inside Mirror (coordinate axis i) (num axis.len) (upto_least coordinate_upto) before_end ∙ unmoved Mirror)
  zoom_spans Nearest = spans (unmoved Nearest)
  zoom_spans Reflect = spans (inside Reflect (coordinate axis i) (num axis.len) (upto_least coordinate_upto) before_end ∙ unmoved Reflect)
  zoom_spans Wrap = spans (inside Wrap (coordinate axis i) (num axis.len) (upto_least coordinate_upto) before_end ∙ unmoved Wrap)
  zoom_spans Replicate = replicate_spans (record { long = refl; stands = refl; short = omega arith }) h.long i (zoom_reaches length out pad i h.short (λ _. h.two) h.most (omega arith))
