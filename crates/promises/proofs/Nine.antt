-- Where no refusal's condition holds, the call succeeds: no other's, and 9's neither.
use Prim.Native.Nat.{ℕ}
use native.Mathlib.Decide.{ℕ_discrete}
use mathlib.Core.Path.{◌≡◌, sym, subst}
use mathlib.Core.Logic.{dite}
use mathlib.Core.Bool.{false}
use mathlib.Core.List.{List}
use lib.ListN.{length}
use lib.Ieee.{Float}
use Rattle.request.specs.declared.Request.{Request}
use Rattle.refusal.specs.Refusals.{Check, number_in}
use Rattle.promises.specs.Entries.{Entry, call, checks}
use Rattle.promises.specs.Given.{holds, NoneBut}
use Rattle.promises.proofs.Given.{success_exactly}

module _ (e : Entry) (r : Request) (input output : List Float) (coverage : List ℕ) (work : List Float) where
  abbrev number : ℕ
  number = number_in (call e r input output coverage work).answer

  abbrev tests : List Check
  tests = checks e r input (length output) (length coverage) (length work)

  pub nine_clear : NoneBut tests 9 → holds tests 9 ≡ false → number ≡ 0
  nine_clear h last = (success_exactly e r input output coverage work).1 (λ n. dite (ℕ_discrete n 9) (λ q. subst (λ (m : ℕ). holds tests m ≡ false) (sym q) last) (h n))
