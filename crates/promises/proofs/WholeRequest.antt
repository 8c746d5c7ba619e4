-- A call of `shift` that demand 3 speaks of: nothing is filtered or padded, each axis is shifted by a whole number, and the call succeeds.
use Prim.Native.Nat.{ℕ, ◌^◌, ◌≤◌, ◌<◌}
use native.Mathlib.Omega.{arith}
use mathlib.Core.Path.{◌≡◌, refl, sym, ap, ◌∙◌, subst}
use mathlib.Core.Bool.{Bool, true, false, ◌&&◌, ◌||◌, cond}
use mathlib.Core.List.{List}
use lib.IntN.{ℤ, pos, ◌-ℤ◌}
use lib.Dec.{ltb, eqb, lit≤}
use lib.ListN.{length, get_or}
use lib.Ieee.{Float, nan, neg, of_int, le}
use borrow.Author.Tests.{le-ltb}
use Rattle.exact.specs.Rounded.{num}
use Rattle.exact.proofs.Withins.{within_of_tests, within_finite}
use Rattle.lists.proofs.Somes.{some_none, none-at}
use Rattle.std.proofs.lemmas.Bool.{or_parts}
use Rattle.border.specs.declared.BorderMode.{BorderMode}
use Rattle.border.specs.declared.BorderMode.TheVariants.{Constant}
use Rattle.axis.specs.declared.coordinate.Axis.{Axis}
use Rattle.axis.specs.declared.point.Point.{Point}
use Rattle.axis.specs.Coordinate.{shift_axis}
use Rattle.axis.specs.Point.{point_at, beside_at, some_beside}
use Rattle.axis.specs.Folded.{folded_at}
use Rattle.axis.proofs.Coordinates.{low_pad}
use Rattle.coverage.specs.Coverage.{kept_at}
use Rattle.prefilter.specs.Volume.{filter_volume}
use Rattle.request.specs.declared.Request.{Request}
use Rattle.request.specs.Sizes.{padding, source_dims}
use Rattle.request.specs.Bookkeeping.{Lengths}
use Rattle.request.specs.Conditions.{wild, wild_fill, some_wild, beside_any}
use Rattle.refusal.specs.declared.Asked.TheVariants.{Volume}
use Rattle.refusal.specs.Refusals.{shift_checks, number_in}
use Rattle.request.proofs.Requests.{not_both, good_lengths}
use Rattle.resample.specs.Call.{source_of, coefficients, shift_call}
use Rattle.promises.specs.Entries.{shifting}
use Rattle.promises.specs.Given.{NoneBut}
use Rattle.promises.specs.Moves.{F64s, Whole, Outside}
use Rattle.promises.proofs.Nine.{nine_clear}
use Rattle.promises.proofs.Slices.{slice_still}
use Rattle.promises.proofs.Succeeding.{Succeeds, succeeds}
use Rattle.promises.proofs.WholePoint.{Names}
use Rattle.promises.proofs.WholeShift.{Shifts, dropped, stays, point_unfolded, point_names, never_beside}
use Rattle.promises.proofs.WholeVoxel.{Finite}

-- what demand 3 asks of a call of `shift`: s is its shifts
pub record Asked (r : Request) (input output : List Float) (coverage : List ℕ) (work : List Float) (fill : Float) (s : ℕ → ℤ) : Type 0 where
  pub constant : r.mode ≡ Constant fill
  pub low : r.order ≤ 1
  pub whole : Whole r s
  pub f64 : F64s input
  pub clear : NoneBut (shift_checks Volume r input (length output) (length coverage) (length work)) 9

abbrev pub dim : Request → ℕ → ℕ
dim r c = get_or r.dims c 0

abbrev pub axis : Request → ℕ → Axis
axis r c = shift_axis (dim r c) (get_or r.factors c nan) (padding r c)

abbrev pub point : Request → ℕ → ℕ → Point
point r c i = point_at r.order r.mode (axis r c) i

-- ---- an input that refusal 8 lets pass
pub not-wild : (input : List Float) → some_wild input ≡ false → Finite input
unfolding some_wild of_int neg
not-wild input e m l =
    let v = get_or input m nan in
    let h = not_both (le (neg (num (2 ^ 100))) v) (le v (num (2 ^ 100))) (none-at (λ (i : ℕ). wild (get_or input i nan)) (length input) e m l) in
    within_finite v (within_of_tests {k = 100} v h.0 h.1)

-- ---- nothing is filtered or padded
pub no_filter : (prefilter : Bool) (order : ℕ) → order ≤ 1 → (prefilter && ltb 1 order) ≡ false
no_filter true order l = le-ltb 1 order l
no_filter false order l = refl

-- the sums read the input itself
pub plain_input : (r : Request) (input : List Float) → r.order ≤ 1 → coefficients r input ≡ input
unfolding coefficients
plain_input r input low = ap (λ (b : Bool). cond b (filter_volume r.mode r.order (source_dims r) (source_of r input)) input) (no_filter r.prefilter r.order low)

pub and_false : (t : Bool) → (t && false) ≡ false
and_false true = refl
and_false false = refl

module _ {r : Request} {input output : List Float} {coverage : List ℕ} {work : List Float} {fill : Float} {s : ℕ → ℤ} (a : Asked r input output coverage work fill s) where
  no_pad : (c : ℕ) → padding r c ≡ 0
  no_pad c = low_pad r.mode r.prefilter r.order (dim r c) a.low

  pub plain : coefficients r input ≡ input
  plain = plain_input r input a.low

  pub length_is : (c : ℕ) → (axis r c).len ≡ dim r c
  length_is c = omega (arith, no_pad c)

  -- what the refusals let pass
  pub lengths : Lengths r.dims
  lengths = good_lengths r.dims (a.clear 3 (λ e. omega (arith, e)))

  pub tame : Finite input
  tame = not-wild input (or_parts (wild_fill r.mode) (some_wild input) (a.clear 8 (λ e. omega (arith, e)))).1

  -- ---- one axis
  -- what holds in Constant without a pad
  given : (c : ℕ) (P : BorderMode → ℕ → Type 0) → P (Constant fill) 0 → P r.mode (padding r c)
  given c P h = subst (λ (m : BorderMode). P m (padding r c)) (sym a.constant) (subst (P (Constant fill)) (sym (no_pad c)) h)

  module _ (c : ℕ) (l : c < 3) (i : ℕ) (h : i < dim r c) where
    abbrev padded : ℕ → Axis
    padded p = shift_axis (dim r c) (get_or r.factors c nan) p

    shifts : Shifts (dim r c) (get_or r.factors c nan) (s c)
    shifts = record { least = (lengths c l).0; still = slice_still r (a.clear 12 (λ e. omega (arith, e))) c l (a.whole c l).0; most = (lengths c l).1; is = (a.whole c l).0; small = (a.whole c l).1 }

    pub drops : Outside (dim r c) (pos i -ℤ s c) → kept_at r.mode (axis r c) i ≡ false
    drops o = given c (λ m p. kept_at m (padded p) i ≡ false) (dropped fill shifts i h o)

    beside : beside_at r.mode (axis r c) i ≡ false
    beside = given c (λ m p. beside_at m (padded p) i ≡ false) (never_beside fill shifts i h)

    module _ (x : ℕ) (k : x < dim r c) (e : pos i -ℤ s c ≡ pos x) where
      pub keeps : kept_at r.mode (axis r c) i ≡ true
      keeps = given c (λ m p. kept_at m (padded p) i ≡ true) (stays fill shifts i h x k e)

      pub unfolded : folded_at r.order r.mode (axis r c) i ≡ false
      unfolded = given c (λ m p. folded_at r.order m (padded p) i ≡ false) (point_unfolded fill shifts i h x k e r.order a.low)

      pub named : Names r.order (dim r c) x (point r c i)
      named = given c (λ m p. Names r.order (dim r c) x (point_at r.order m (padded p) i)) (point_names fill shifts i h x k e r.order a.low)

  -- ---- refusal 9 does not meet the call either
  none_beside : (c : ℕ) → c < 3 → some_beside r.mode (axis r c) ≡ false
  unfolding some_beside
  none_beside c l = some_none (beside_at r.mode (axis r c)) (dim r c) (beside c l)

  pub succeeded : number_in (shift_call r input output coverage work).answer ≡ 0
  unfolding beside_any
  succeeded =
      nine_clear shifting r input output coverage work a.clear
      ((λ t. eqb r.order 0 && (none_beside 0 (lit≤ tt) t || none_beside 1 (lit≤ tt) t || none_beside 2 (lit≤ tt) t)) ∙ and_false (eqb r.order 0))

  pub success : Succeeds shifting r input output coverage work
  success = succeeds r input output coverage work shifting succeeded
