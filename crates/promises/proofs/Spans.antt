-- An output index whose coordinate settles from 0 up to half a voxel short of the axis's end: it is kept, and its nearest index lies inside.
use Prim.Native.Nat.{ℕ, ◌+◌, ◌-◌, ◌*◌, ◌^◌, ◌≤◌, ◌<◌}
use native.Mathlib.Omega.{arith}
use mathlib.Core.Path.{◌≡◌, sym, ◌∙◌, subst}
use mathlib.Core.Bool.{true, false}
use lib.IntN.{pos}
use lib.Dec.{lit≤}
use lib.Ieee.{Float}
use borrow.Author.Tests.{lt-leb}
use Rattle.exact.specs.Rounded.{◌⊕◌, ◌⊖◌, num, half}
use Rattle.exact.specs.Whole.{Is}
use Rattle.exact.specs.Floor.{floor_f}
use Rattle.exact.specs.Within.{Within}
use Rattle.exact.proofs.Is.{le_is}
use Rattle.exact.proofs.Naturals.{num_is, plus, minus, not_below}
use Rattle.exact.proofs.Upto.{Upto, upto_half, upto_num, upto_sum, upto_kept, upto_floor}
use Rattle.border.specs.declared.BorderMode.{BorderMode}
use Rattle.border.specs.declared.BorderMode.TheVariants.{Replicate}
use Rattle.axis.specs.declared.coordinate.Axis.{Axis}
use Rattle.axis.specs.Coordinate.{unpadded, settled}
use Rattle.axis.specs.Weights.{base}
use Rattle.axis.specs.Neighbours.{first_neighbour, outside}
use Rattle.axis.specs.Point.{beside_at}
use Rattle.axis.proofs.Folding.{Padded}
use Rattle.axis.proofs.Settling.{replicate_upto}
use Rattle.axis.proofs.Singles.{Lone, lone_settled}
use Rattle.coverage.specs.Coverage.{kept_at}

-- in units of 2^-14
pub record Spans (mode : BorderMode) (a : Axis) (i : ℕ) : Type 0 where
  pub units : ℕ
  pub upto : Upto units (settled mode a i)
  pub room : units + 2 ^ 13 < a.len * 2 ^ 14
  pub short : a.len ≤ 4120

module _ {mode : BorderMode} {a : Axis} {i : ℕ} (s : Spans mode a i) where
  pub spans_kept : kept_at mode a i ≡ true
  unfolding kept_at
  spans_kept = upto_kept s.upto

  nearest_inside : outside 0 a.len (first_neighbour 0 (settled mode a i)) ≡ false
  unfolding first_neighbour base
  nearest_inside =
      let room = s.room in
      let short = s.short in
      let f = upto_floor (upto_sum s.upto upto_half (omega arith)) a.len room (omega arith) in
      let first : Is (floor_f (settled mode a i ⊕ half) ⊖ num 0) (pos (f.0 - 0)) = minus f.2 (num_is 0 (lit≤ tt)) (omega arith) (omega (arith, f.1)) in
      let far = le_is (num_is a.len (omega arith)) (plus first (num_is 0 (lit≤ tt)) (omega (arith, f.1))) ∙ lt-leb a.len (f.0 - 0 + 0) (omega (arith, f.1)) in
      simp (not_below first, far)

  pub spans_not_beside : beside_at mode a i ≡ false
  unfolding beside_at
  spans_not_beside = simp (upto_kept s.upto, nearest_inside)

-- in Replicate each does
pub replicate_spans : {a : Axis} {length pad : ℕ} → Padded a length pad → 2 ≤ length → (i : ℕ) {k : ℕ} → Within k (unpadded a i) → Spans Replicate a i
replicate_spans {a} {length} {pad} b two i w =
    let long = b.long in
    record { units = (length - 1) * 2 ^ 14 + pad * 2 ^ 14; upto = replicate_upto b two i w; room = omega arith; short = b.short }

-- and the one index of a single slice, in every mode
pub lone_spans : (mode : BorderMode) {a : Axis} {i : ℕ} → Lone a i → Spans mode a i
lone_spans mode {a} {i} l =
    let one = l.one in
    record { units = 0; upto = subst (λ (x : Float). Upto 0 x) (sym (lone_settled mode l)) (upto_num 0 (lit≤ tt)); room = omega arith; short = omega arith }
