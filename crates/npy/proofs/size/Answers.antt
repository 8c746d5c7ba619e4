-- `npy::size` meets its contract.
use native.Mathlib.Omega.{arith}
use mathlib.Core.Path.{◌≡◌, sym, ap, ◌∙◌}
use Prim.Native.Nat.{ℕ, ◌+◌, ◌*◌}
use Rattle.refusal.specs.Refusals.{first}
use Rattle.npy.specs.Call.{length_checks, size_by, size_call}
use Rattle.npy.proofs.Verdicts.{passed_small, passed_count}
use Rattle.npy.proofs.size.Goals.{In-Ok}
use Rattle.npy.proofs.size.Goals as goal
use Rattle.std.specs.Prelude.{Result, Ok, ⊤}
use Rattle.refusal.specs.declared.Refusal.{Refusal}

verdict : (c : In-Ok) → first (length_checks c.args.d) ≡ Ok tt
verdict c = sym c.length_verdict.ensures ∙ c.in-Ok.is

pub count_of-requires : goal.count_of-requires
count_of-requires c = passed_small _ (verdict c)

pub overflow_mul-result : goal.overflow_mul-result
overflow_mul-result c = record { fits = omega (arith, c.count_of.ensures, passed_count _ (verdict (goal.at.overflow_mul-result c).In-Ok)) }

pub overflow_add-result : goal.overflow_add-result
overflow_add-result c = record { fits = omega (arith, c.count_of.ensures, passed_count _ (verdict (goal.at.overflow_add-result c).In-Ok)) }

pub returns-in-Ok : goal.returns-in-Ok
unfolding size_call
returns-in-Ok c = let d = c.args.d in ap (λ (n : ℕ). 128 + n * 8) c.count_of.ensures ∙ sym (ap (λ (v : Result ⊤ Refusal). size_by v d) (verdict (goal.at.returns-in-Ok c).In-Ok))

pub returns-in-Err : goal.returns-in-Err
unfolding size_call
returns-in-Err c = let d = c.args.d in sym (ap (λ (v : Result ⊤ Refusal). size_by v d) (sym c.length_verdict.ensures ∙ c.in-Err.is))
