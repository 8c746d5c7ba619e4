-- What the verdicts of the two filters let pass, and their answers.
use Prim.Native.Nat.{ℕ, ◌≤◌}
use native.Mathlib.Omega.{arith}
use mathlib.Core.Path.{◌≡◌, sym, ap, ◌∙◌}
use mathlib.Core.Bool.{Bool, true, false, cond}
use mathlib.Core.List.{List}
use lib.ListN.{length}
use lib.Ieee.{Float}
use borrow.Author.Tests.{ltb-false, eqb-true, not-false}
use Rattle.prefilter.specs.Volume.{count_of}
use Rattle.prefilter.specs.Bookkeeping.{Sized}
use Rattle.request.specs.declared.Request.{Request}
use Rattle.refusal.specs.declared.Refusal.{Refusal}
use Rattle.request.specs.Bookkeeping.{Lengths}
use Rattle.refusal.specs.Refusals.{first, filter_checks, spline_filter_checks, spline_filter1d_checks}
use Rattle.resample.specs.Call.{filter_call_of, filter_call_by}
use Rattle.refusal.proofs.Firsts.{Clear, all_clear}
use Rattle.std.proofs.lemmas.Bool.{or_parts}
use Rattle.request.proofs.Requests.{good_lengths}
use Rattle.std.specs.Prelude.{Result, Ok, Err, ⊤}

-- ---- what the filters then know; the numbers are the lengths of the buffers
pub record Filters (r : Request) (input output : ℕ) : Type 0 where
  pub order : r.order ≤ 5
  pub lengths : Lengths r.dims
  pub read : input ≡ count_of r.dims
  pub written : output ≡ count_of r.dims

module _ (r : Request) (input : List Float) (output : ℕ) where
  admitted : r.order ≤ 5 → Clear (filter_checks r input output) → Filters r (length input) output
  admitted order h =
      let wrongs = or_parts _ _ h.1.1.0 in
      record { order = order; lengths = good_lengths r.dims h.0; read = eqb-true _ _ (not-false _ wrongs.0); written = eqb-true _ _ (not-false _ wrongs.1) }

  pub volume_admitted : first (spline_filter_checks r input output) ≡ Ok tt → (2 ≤ r.order) × Filters r (length input) output
  volume_admitted e =
      let h = all_clear (spline_filter_checks r input output) e in
      let bounds = or_parts _ _ h.0 in
      (ltb-false _ _ bounds.0, admitted (ltb-false _ _ bounds.1) h.1)

  pub axis_admitted : (axis : ℕ) → first (spline_filter1d_checks r axis input output) ≡ Ok tt → (axis ≤ 2) × Filters r (length input) output
  axis_admitted axis e =
      let h = all_clear (spline_filter1d_checks r axis input output) e in
      (ltb-false _ _ h.1.0, admitted (ltb-false _ _ h.0) h.1.1)

module _ {r : Request} {input output : ℕ} (f : Filters r input output) where
  pub as_long : output ≡ input
  as_long = f.written ∙ sym f.read

  -- what the filter is lent is as long as the output
  pub sized : {length : ℕ} → length ≡ output → Sized r.dims length
  sized e = record { least = λ axis h. (f.lengths axis h).0; most = λ axis h. omega (arith, (f.lengths axis h).1); all = e ∙ f.written }

-- ---- the answers
pub answer_passed : {v : Result ⊤ Refusal} {ys filtered : List Float} (output : List Float) → v ≡ Ok tt → ys ≡ filtered → filter_call_of (Ok tt) ys ≡ filter_call_by v filtered output
answer_passed {v} {ys} {filtered} output p e = ap (λ (xs : List Float). filter_call_of (Ok tt) xs) e ∙ sym (ap (λ (v : Result ⊤ Refusal). filter_call_by v filtered output) p)

pub answer_refused : {v : Result ⊤ Refusal} {why : Refusal} (filtered output : List Float) → v ≡ Err why → filter_call_of (Err why) output ≡ filter_call_by v filtered output
answer_refused filtered output e = sym (ap (λ (v : Result ⊤ Refusal). filter_call_by v filtered output) e)

-- ---- a filter that only some orders take
pub done : {b : Bool} {ys filtered : List Float} (input : List Float) → b ≡ true → ys ≡ filtered → ys ≡ cond b filtered input
done input t e = e ∙ simp t

pub left : {b : Bool} {ys input : List Float} (filtered : List Float) → b ≡ false → ys ≡ input → ys ≡ cond b filtered input
left filtered t e = e ∙ simp t
