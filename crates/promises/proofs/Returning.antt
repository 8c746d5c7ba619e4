-- "And the opposite shift brings them back": every voxel that had stayed inside is given back, as a number, with the fill in all other places. That the second call is not refused is part of it.
use Prim.Native.Nat.{ℕ, ◌≤◌}
use native.Mathlib.Omega.{arith}
use mathlib.Core.Path.{◌≡◌, sym, ap, ◌∙◌, subst}
use mathlib.Core.Logic.{⊎_map}
use mathlib.Core.Bool.{false, ◌||◌}
use mathlib.Core.List.{List}
use lib.IntN.{ℤ, pos, neg_ℤ, ◌+ℤ◌, ◌-ℤ◌, neg_ℤ-neg_ℤ, +ℤ-neg_ℤ_cancel}
use lib.Dec.{T}
use lib.ListN.{length, get_or}
use lib.Ieee.{Float, nan, binary64, fits}
use Rattle.lists.proofs.Somes.{some_none, none-at}
use Rattle.std.proofs.lemmas.Bool.{or_parts}
use Rattle.border.specs.declared.BorderMode.TheVariants.{Constant}
use Rattle.prefilter.specs.Volume.{count_of}
use Rattle.request.specs.declared.Request.{Request}
use Rattle.request.specs.Sizes.{needed}
use Rattle.request.specs.Conditions.{bad_lengths, too_large, wild, wild_fill, some_wild}
use Rattle.refusal.specs.declared.Asked.TheVariants.{Volume}
use Rattle.refusal.specs.Refusals.{shift_checks, number_in}
use Rattle.resample.specs.Call.{Call, shift_call}
use Rattle.promises.specs.Given.{NoneBut}
use Rattle.promises.specs.Place.{voxel}
use Rattle.promises.specs.Moves.{F64s, Whole, Outside, Moved, Returned}
use Rattle.promises.proofs.Sames.{same_trans, tame_same}
use Rattle.promises.proofs.Slices.{slice_still}
use Rattle.promises.proofs.Moving.{moved}
use Rattle.promises.proofs.Images.{result_length, each}
use Rattle.promises.proofs.WholeRequest.{Asked, succeeded, success}
use Rattle.promises.proofs.Eight.{Ready, eight_clear}

-- ---- less a negative number is more
back_is : (i : ℕ) (z : ℤ) → pos i -ℤ neg_ℤ z ≡ pos i +ℤ z
back_is i z = ap (λ (w : ℤ). pos i +ℤ w) (neg_ℤ-neg_ℤ z)

there_is : (i x : ℕ) (z : ℤ) → pos i +ℤ z ≡ pos x → pos x -ℤ z ≡ pos i
there_is i x z e = ap (λ (w : ℤ). w -ℤ z) (sym e) ∙ +ℤ-neg_ℤ_cancel (pos i) z

beyond : (n i : ℕ) (z : ℤ) → Outside n (pos i +ℤ z) → Outside n (pos i -ℤ neg_ℤ z)
beyond n i z = subst (Outside n) (sym (back_is i z))

module _ (d : List ℕ) (s : ℕ → ℤ) (fill : Float) {before between after : List Float} {codes codes' : List ℕ} where
  -- of any two volumes so moved
  pub returns : Moved d s fill before between codes → Moved d (λ i. neg_ℤ (s i)) fill between after codes' → Returned d s fill before after
  returns there back = record {
    stayed = λ i j k x y z h to ex ey ez.
        same_trans (voxel d after i j k) (voxel d between x y z) (voxel d before i j k)
        (back.inside i j k x y z h to (back_is i (s 0) ∙ ex) (back_is j (s 1) ∙ ey) (back_is k (s 2) ∙ ez)).0
        (there.inside x y z i j k to h (there_is i x (s 0) ex) (there_is j y (s 1) ey) (there_is k z (s 2) ez)).0;
    gone = λ i j k h o. (back.outside i j k h (⊎_map (beyond (get_or d 0 0) i (s 0)) (⊎_map (beyond (get_or d 1 0) j (s 1)) (beyond (get_or d 2 0) k (s 2))) o)).0;
  }

module _ {r : Request} {input output : List Float} {coverage : List ℕ} {work : List Float} {fill : Float} {s : ℕ → ℤ} (a : Asked r input output coverage work fill s) (fill64 : T (fits binary64 fill)) where
  abbrev there : Call
  there = shift_call r input output coverage work

  -- ---- the first output is again an input that refusal 8 lets pass
  values : (wild_fill r.mode ≡ false) × (some_wild input ≡ false)
  values = or_parts (wild_fill r.mode) (some_wild input) (a.clear 8 (λ e. omega (arith, e)))

  again_f64 : F64s there.output
  again_f64 = each a (λ v. T (fits binary64 v)) fill64 (λ m v l h. h.is64)

  again_tame : some_wild there.output ≡ false
  unfolding some_wild
  again_tame =
      some_none (λ m. wild (get_or there.output m nan)) (length there.output)
      (each a (λ v. wild v ≡ false) (ap wild_fill (sym a.constant) ∙ values.0)
      (λ m v l h. tame_same v (get_or input m nan) h.same (none-at (λ (i : ℕ). wild (get_or input i nan)) (length input) values.1 m l)))

  -- ---- the second call
  module _ (back : Request) (output' : List Float) (coverage' : List ℕ) (work' : List Float) (dims : back.dims ≡ r.dims) (constant : back.mode ≡ Constant fill) (low : back.order ≤ 1) (whole : Whole back (λ i. neg_ℤ (s i)))
      (values' : length output' ≡ length output) (codes' : length coverage' ≡ length coverage) where
    ready : Ready back (λ i. neg_ℤ (s i)) there.output (length output') (length coverage')
    ready =
        let p = (success a).passes in
        let n = count_of r.dims in
        let count : n ≡ count_of back.dims = ap count_of (sym dims) in
        record {
          lengths = ap bad_lengths dims ∙ a.clear 3 (λ e. omega (arith, e));
          still = λ i l one. ap neg_ℤ (slice_still r (a.clear 12 (λ e. omega (arith, e))) i l (a.whole i l).0 (ap (λ (d : List ℕ). get_or d i 0) (sym dims) ∙ one));
          count = ap (λ (d : List ℕ). too_large (count_of d)) dims ∙ (or_parts (too_large n) (too_large n) (or_parts (too_large n || too_large n) (too_large (needed r)) (a.clear 6 (λ e. omega (arith, e)))).0).0;
          all = result_length a ∙ count;
          values = values' ∙ p.values ∙ count;
          codes = codes' ∙ p.codes ∙ count;
          fill = ap wild_fill (constant ∙ sym a.constant) ∙ values.0;
          tame = again_tame;
        }

    asked_again : Asked back there.output output' coverage' work' fill (λ i. neg_ℤ (s i))
    asked_again = record { constant = constant; low = low; whole = whole; f64 = again_f64; clear = eight_clear back (λ i. neg_ℤ (s i)) there.output (length output') (length coverage') (length work') low whole ready }

    both : let again = shift_call back there.output output' coverage' work' in (number_in again.answer ≡ 0) × Returned r.dims s fill input again.output
    both =
        let again = shift_call back there.output output' coverage' work' in
        (succeeded asked_again, returns r.dims s fill (moved a) (subst (λ (d : List ℕ). Moved d (λ i. neg_ℤ (s i)) fill there.output again.output again.coverage) dims (moved asked_again)))

pub shift_back :
    (r : Request) (input output : List Float) (coverage : List ℕ) (work : List Float) (fill : Float) (s : ℕ → ℤ) → r.mode ≡ Constant fill → r.order ≤ 1 → Whole r s → F64s input → T (fits binary64 fill) →
    NoneBut (shift_checks Volume r input (length output) (length coverage) (length work)) 9 →
    (back : Request) (output' : List Float) (coverage' : List ℕ) (work' : List Float) → back.dims ≡ r.dims → back.mode ≡ Constant fill → back.order ≤ 1 → Whole back (λ i. neg_ℤ (s i)) →
    length output' ≡ length output → length coverage' ≡ length coverage →
    let there = shift_call r input output coverage work in let again = shift_call back there.output output' coverage' work' in
    (number_in again.answer ≡ 0) × Returned r.dims s fill input again.output
shift_back r input output coverage work fill s constant low whole f64 fill64 clear =
    let a : Asked r input output coverage work fill s = record { constant = constant; low = low; whole = whole; f64 = f64; clear = clear } in
    both a fill64
