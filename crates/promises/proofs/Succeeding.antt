-- What a success writes, whichever of `shift` and `zoom` was called.
use Prim.Native.Nat.{ℕ, ◌*◌}
use mathlib.Core.Path.{◌≡◌, refl, sym, ap, ◌∙◌}
use mathlib.Core.List.{List}
use lib.ListN.{length}
use lib.Ieee.{Float}
use Rattle.request.specs.declared.Request.{Request}
use Rattle.refusal.specs.declared.Asked.TheVariants.{Volume}
use Rattle.refusal.specs.Refusals.{first, number_in}
use Rattle.resample.specs.Call.{success, call_by, shift_call, zoom_call}
use Rattle.refusal.specs.Bookkeeping.{Passes}
use Rattle.refusal.proofs.Admitting.{shift_passes, zoom_passes}
use Rattle.promises.specs.Entries.{Entry, shifting, zooming, call, checks, axes_of}
use Rattle.promises.proofs.Given.{some_number, numbered}
use Rattle.std.specs.Prelude.{Result, Ok, Err, ⊤}
use Rattle.refusal.specs.declared.Refusal.{Refusal}

-- a call that nothing refused
pub record Succeeds (e : Entry) (r : Request) (input output : List Float) (coverage : List ℕ) (work : List Float) : Type 0 where
  pub writes : call e r input output coverage work ≡ success r (axes_of e r) input work
  pub passes : Passes r (axes_of e r) ((axes_of e r).x.out * ((axes_of e r).y.out * (axes_of e r).z.out)) (length input) (length output) (length coverage) (length work)

pub passed : (v : Result ⊤ Refusal) → number_in v ≡ 0 → v ≡ Ok tt
passed (Ok tt) e = refl
passed (Err why) e = absurd (some_number why e)

module _ (r : Request) (input output : List Float) (coverage : List ℕ) (work : List Float) where
  pub by_verdict : (e : Entry) → number_in (call e r input output coverage work).answer ≡ 0 → first (checks e r input (length output) (length coverage) (length work)) ≡ Ok tt
  by_verdict e q = passed (first (checks e r input (length output) (length coverage) (length work))) (sym (numbered e r input output coverage work) ∙ q)

  pub succeeds : (e : Entry) → number_in (call e r input output coverage work).answer ≡ 0 → Succeeds e r input output coverage work
  unfolding shift_call zoom_call
  succeeds shifting q =
      let v = by_verdict shifting q in
      record { writes = ap (λ (v : Result ⊤ Refusal). call_by v r (axes_of shifting r) input output coverage work) v; passes = shift_passes Volume r input (length output) (length coverage) (length work) v }
  succeeds zooming q =
      let v = by_verdict zooming q in
      record { writes = ap (λ (v : Result ⊤ Refusal). call_by v r (axes_of zooming r) input output coverage work) v; passes = zoom_passes Volume r input (length output) (length coverage) (length work) v }
