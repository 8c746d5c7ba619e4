-- What `shift` and `zoom` ask of `write`, and what they answer and leave, by the verdict.
use Prim.Native.Nat.{ℕ}
use mathlib.Core.Path.{◌≡◌, sym, subst, ap, ◌∙◌}
use mathlib.Core.List.{List}
use lib.Ieee.{Float}
use Rattle.request.specs.declared.Axes.{Axes}
use Rattle.request.specs.declared.Request.{Request}
use Rattle.coverage.specs.declared.counts.Counts.{Counts}
use Rattle.refusal.specs.declared.Refusal.{Refusal}
use Rattle.refusal.specs.Bookkeeping.{Passes}
use Rattle.resample.specs.Bookkeeping.{places}
use Rattle.resample.specs.Call.{call_of, call_by, success}
use Rattle.std.specs.Prelude.{Result, Ok, Err, ⊤}

-- the axes that write is given are those that the definition has
pub write_passes : {r : Request} {a b : Axes} {input output coverage work : ℕ} → b ≡ a → Passes r a (places a) input output coverage work → Passes r b (places b) input output coverage work
write_passes {r} {a} {b} {input} {output} {coverage} {work} e p = subst (λ (x : Axes). Passes r x (places x) input output coverage work) (sym e) p

module _ (r : Request) (input output : List Float) (coverage : List ℕ) (work : List Float) {v : Result ⊤ Refusal} where
  pub call_passed :
      (a' a : Axes) {counts : Counts} {values : List Float} {codes : List ℕ} {after : List Float} → v ≡ Ok tt → a' ≡ a → call_of (Ok counts) values codes after ≡ success r a' input work →
      call_of (Ok counts) values codes after ≡ call_by v r a input output coverage work
  call_passed a' a q e w = w ∙ ap (λ (b : Axes). success r b input work) e ∙ ap (λ (u : Result ⊤ Refusal). call_by u r a input output coverage work) (sym q)

  pub call_refused : (a : Axes) (why : Refusal) → v ≡ Err why → call_of (Err why) output coverage work ≡ call_by v r a input output coverage work
  call_refused a why q = ap (λ (u : Result ⊤ Refusal). call_by u r a input output coverage work) (sym q)
