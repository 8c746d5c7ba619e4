-- A single slice, whatever the mode and the order: its one voxel is kept, read with the weight 1 and nothing else, and no neighbour is folded; and which factors leave it one.
use Rattle.std.proofs.Common.{◌≡◌, ℕ, ◌-◌, ◌*◌, Bool, true, false, cond, not, ◌&&◌, ◌||◌, T, eqb, get_or, pos, refl, ap, ◌∙◌, zero-le, zero-lt-suc, arith, lit≤, eqb→eq, ltb→lt}
use mathlib.Core.Bool.{beq}
use lib.Ieee.{Float, nan, inf, fin, binary64, up, down, round, sum, neg, add, sub, mul, lt, le, eq, of_int, to_unsigned, fits}
use lib.Ieee.Exact.{HasValue}
use lib.Ieee.Fits.{and_l}
use Rattle.limits.specs.Limits.{single}
use Rattle.limits.proofs.Singles.{one_single}
use Rattle.exact.specs.Rounded.{◌⊕◌, ◌⊖◌, ◌⊗◌, ◌⊘◌, num, half, decimal}
use Rattle.exact.specs.Floor.{floor_f}
use Rattle.exact.specs.Whole.{Is}
use Rattle.exact.specs.Round.{round_ties_even_f}
use Rattle.exact.proofs.Value.{of_true, add_val, neg_val}
use Rattle.exact.proofs.Whole.{W_val}
use Rattle.exact.proofs.Rounds.{round_to_one}
use Rattle.exact.proofs.Ones.{mul-one_l}
use Rattle.exact.proofs.Casts.{to_unsigned_is}
use Rattle.lists.specs.Some.{some_below}
use Rattle.lists.specs.Tabulate.{tabulate}
use Rattle.border.specs.declared.BorderMode.{BorderMode}
use Rattle.axis.specs.declared.coordinate.Axis.{Axis}
use Rattle.axis.specs.Coordinate.{shift_axis, zoom_axis, unpadded, coordinate, settled, kept}
use Rattle.axis.specs.Length.{output_length}
use Rattle.axis.specs.Weights.{order_on, base, leading, completed, sum_from, build_splines}
use Rattle.axis.specs.Neighbours.{first_neighbour, outside, neighbour, neighbour_index}
use Rattle.axis.specs.declared.point.Mark.TheVariants.{Dropped}
use Rattle.axis.specs.Point.{empty, neighbours, kept_point, point_at, one_point, beside_at}
use Rattle.axis.specs.Folded.{weight_at, unfolded_at, weighs, some_folded, folded_at}
use Rattle.axis.proofs.Coordinates.{single-settled}

-- an axis of one voxel, unpadded, at the coordinate 0
pub record Lone (a : Axis) (i : ℕ) : Type 0 where
  pub one : a.len ≡ 1
  pub pad : a.pad ≡ num 0
  pub zeroth : unpadded a i ≡ num 0

module _ (mode : BorderMode) {a : Axis} {i : ℕ} (l : Lone a i) where
  pub lone_settled : settled mode a i ≡ num 0
  unfolding coordinate add of_int sum round
  lone_settled = single-settled mode a i (ap (λ (n : ℕ). single n) l.one) ∙ (λ t. l.zeroth t ⊕ l.pad t)

  pub lone_kept : kept (settled mode a i) ≡ true
  unfolding lt neg of_int round
  lone_kept = ap (λ (x : Float). kept x) lone_settled

  pub lone_beside : beside_at mode a i ≡ false
  unfolding beside_at first_neighbour base floor_f lt le neg of_int round add sub sum eq
  lone_beside = λ t. kept (lone_settled t) && outside 0 (l.one t) (first_neighbour 0 (lone_settled t))

  pub lone_point : (order : ℕ) → point_at order mode a i ≡ one_point
  unfolding point_at kept_point neighbours neighbour_index neighbour tabulate build_splines base leading completed sum_from first_neighbour floor_f lt le neg of_int round add sub sum eq to_unsigned
  lone_point order = λ t. cond (kept (lone_settled t)) (kept_point (order_on (l.one t) order) mode (l.one t) (lone_settled t)) (empty Dropped)

  pub lone_unfolded : (order : ℕ) → folded_at order mode a i ≡ false
  unfolding folded_at some_below weight_at unfolded_at build_splines base leading completed sum_from first_neighbour floor_f lt le neg of_int round add sub sum eq
  lone_unfolded order =
      ap (λ (n : ℕ). some_folded (order_on n order) mode a i) l.one
      ∙ (λ t. weighs (get_or (build_splines 0 (lone_settled t)) 0 nan) && (lt (first_neighbour 0 (lone_settled t) ⊕ num 0) (l.pad t) || le (num (l.one t) ⊖ l.pad t) (first_neighbour 0 (lone_settled t) ⊕ num 0)))

-- ---- the axes that shift and zoom make of a single slice
zero_value : (s : Float) → T (eq s (num 0)) → (t : Bool) × HasValue s t 0 1
unfolding eq of_int round
zero_value nan h = absurd h
zero_value (inf t) h = absurd h
zero_value (fin t m e) h = (t, (refl, eqb→eq (m * up e * 1) (0 * down e) (and_l (eqb (m * up e * 1) (0 * down e)) (beq t false || eqb (m * up e * 1) 0) h)))

nothing : (t : Bool) → sum binary64 false (0 * 1) t (0 * 1) (1 * 1) ≡ num 0
unfolding sum of_int round
nothing true = refl
nothing false = refl

pub shift_lone : {n : ℕ} (s : Float) (pad : ℕ) → n ≡ 1 → pad ≡ 0 → eq s (num 0) ≡ true → Lone (shift_axis n s pad) 0
unfolding unpadded mul of_int round
shift_lone {n} s pad one none z = record {
  one = omega arith;
  pad = ap (λ (k : ℕ). num k) none;
  zeroth =
      let v = zero_value s (of_true (eq s (num 0)) z) in
      ap (λ (x : Float). x ⊗ num 1) (add_val binary64 (num 0) (neg s) false (not v.0) 0 1 0 1 (zero-lt-suc 0) (zero-lt-suc 0) (W_val (pos 0) zero-le) (neg_val s v.0 0 1 v.1) ∙ nothing (not v.0));
}

pub zoom_lone : {n : ℕ} (out pad : ℕ) → n ≡ 1 → pad ≡ 0 → Lone (zoom_axis n out pad) 0
unfolding unpadded add mul of_int round sum
zoom_lone {n} out pad one none = record {
  one = omega arith;
  pad = ap (λ (k : ℕ). num k) none;
  zeroth = ap (λ (t : Bool). (num 0 ⊕ num 0) ⊗ cond t (num 1) (num (n - 1) ⊘ num (out - 1))) (one_single n one);
}

-- ---- a factor above 0.5 and below 1.5 leaves it one
near_one : (f : Float) → T (lt half f) → T (lt f (decimal 3 2)) → Is (round_ties_even_f f) (pos 1)
unfolding lt round
near_one nan l h = absurd l
near_one (inf true) l h = absurd l
near_one (inf false) l h = absurd h
near_one (fin true m e) l h = absurd l
near_one (fin false m e) l h = round_to_one m e (omega (arith, ltb→lt (1 * 1 * down e) (m * up e * 2) l)) (omega (arith, ltb→lt (m * up e * 2) (3 * 1 * down e) h))

pub single-length : (f : Float) → T (fits binary64 f) → T (lt half f) → T (lt f (decimal 3 2)) → output_length 1 f ≡ 1
unfolding output_length
single-length f fit low high = ap (λ (x : Float). to_unsigned 64 (round_ties_even_f x)) (mul-one_l f fit) ∙ to_unsigned_is (near_one f low high) (lit≤ tt)
