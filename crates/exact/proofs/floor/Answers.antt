-- `exact::floor` meets its contract. Within ±2 ^ 53 the function cuts x to a whole number and compares that with x, and past it x is whole (`Floors`).
use Rattle.std.proofs.Common.{◌≡◌, ℤ, pos, sym, refl, ap, ◌∙◌, true≢false, lit<, w64, to_z, of_z}
use lib.Ieee.{Float, binary64, of_bits, neg, le, lt, eq, sub, fits, of_int, to_signed}
use lib.Ieee.Casts.{to_signed_in}
use mir.ValLaws.{to_z-of_z}
use Rattle.exact.specs.Whole.{W}
use Rattle.exact.specs.Within.{Bounded}
use Rattle.exact.proofs.Value.{of_true, is_true}
use Rattle.exact.proofs.Floors.{high, low, bounded_of_tests, tests_of_bounded, lt_of_bounded, bounded_mono, floor_outside, floor_same, floor_less, floor_cut}
use Rattle.exact.proofs.floor.Goals.{After-nearest_i64_to_f64-t, Then-x-2, else-x-via-then-x+else-x-2, else-x-via-else-x}
use Rattle.exact.proofs.floor.Goals as goal

in_range : (c : Then-x-2) → Bounded 53 c.args.x
unfolding of_bits neg
in_range c = bounded_of_tests 53 c.args.x (of_true _ c.if-x.true) (of_true _ c.if-x-2.true)

pub truncating_f64_to_i64-requires : goal.truncating_f64_to_i64-requires
truncating_f64_to_i64-requires c =
    let x = c.args.x in
    record { lower_bound = (tests_of_bounded 63 x (bounded_mono 53 x {j = 63} (lib.Dec.lit≤ tt) (in_range c))).0; upper_bound = lt_of_bounded 53 x {j = 63} (lit< tt) (in_range c) }

-- the float that x is compared with is the cut of x
cut : (c : After-nearest_i64_to_f64-t) → c.nearest_i64_to_f64-t.result ≡ W (to_signed 63 c.args.x)
cut c =
    let t = to_signed 63 c.args.x in
    c.nearest_i64_to_f64-t.ensures ∙ ap (λ (z : ℤ). W (to_z w64 (of_z w64 z))) c.truncating_f64_to_i64.ensures ∙ ap W (to_z-of_z w64 t (record { sfits = to_signed_in 63 c.args.x }))

pub returns-then-t-x : goal.returns-then-t-x
returns-then-t-x c =
    let x = c.args.x in
    sym (floor_same x (in_range (goal.at.returns-then-t-x c).Then-x-2) (ap (λ (z : Float). eq z x) (sym (cut (goal.at.returns-then-t-x c).After-nearest_i64_to_f64-t)) ∙ c.if-t-x.true))

one : of_bits binary64 4607182418800017408 ≡ W (pos 1)
unfolding of_bits of_int
one = refl

pub returns-then-x-t : goal.returns-then-x-t
returns-then-x-t c =
    let x = c.args.x in
    let k = cut (goal.at.returns-then-x-t c).After-nearest_i64_to_f64-t in
    ap (λ (z : Float). sub binary64 c.nearest_i64_to_f64-t.result z) one
    ∙ ap (λ (z : Float). sub binary64 z (W (pos 1))) k
    ∙ sym (floor_less x (in_range (goal.at.returns-then-x-t c).Then-x-2) (ap (λ (z : Float). eq z x) (sym k) ∙ c.if-t-x.false) (ap (λ (z : Float). lt x z) (sym k) ∙ c.if-x-t.true))

pub returns-else-x-t : goal.returns-else-x-t
returns-else-x-t c =
    let x = c.args.x in
    let k = cut (goal.at.returns-else-x-t c).After-nearest_i64_to_f64-t in
    k ∙ sym (floor_cut x (in_range (goal.at.returns-else-x-t c).Then-x-2) (ap (λ (z : Float). eq z x) (sym k) ∙ c.if-t-x.false) (ap (λ (z : Float). lt x z) (sym k) ∙ c.if-x-t.false))

pub returns-else-x : goal.returns-else-x
unfolding of_bits neg
returns-else-x c =
    let x = c.args.x in
    sym (floor_outside x (of_true (fits binary64 x) c.well_formed.0.1) (elim c.else-x.branch [
      | else-x-via-then-x+else-x-2 w ↦ λ t. true≢false (sym (is_true (le x (high 53)) (tests_of_bounded 53 x t).1) ∙ w.if-x-2.false)
      | else-x-via-else-x w ↦ λ t. true≢false (sym (is_true (le (low 53) x) (tests_of_bounded 53 x t).0) ∙ w.if-x.false)
    ]))
