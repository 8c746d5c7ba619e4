-- `npy::write_verdict` meets its contract.
use native.Mathlib.Omega.{arith}
use mathlib.Core.Path.{◌≡◌, sym, ◌∙◌}
use Rattle.refusal.specs.Refusals.{first}
use Rattle.npy.specs.Call.{length_checks}
use Rattle.npy.proofs.Verdicts.{passed_small, passed_count}
use Rattle.npy.proofs.write_verdict.Goals.{In_ok-length_verdict}
use Rattle.npy.proofs.write_verdict.Goals as goal
use Rattle.std.specs.Prelude.{Ok}

verdict : (c : In_ok-length_verdict) → first (length_checks c.args.d) ≡ Ok tt
verdict c = sym c.length_verdict.ensures ∙ c.in_ok-length_verdict.was

pub count_of-count-requires : goal.count_of-count-requires
count_of-count-requires c = passed_small _ (verdict c)

pub overflow_mul-count : goal.overflow_mul-count
overflow_mul-count c = record { fits = omega (arith, c.count_of-count.ensures, passed_count _ (verdict (goal.at.overflow_mul-count c).In_ok-length_verdict)) }

pub overflow_add-count : goal.overflow_add-count
overflow_add-count c = record { fits = omega (arith, c.count_of-count.ensures, passed_count _ (verdict (goal.at.overflow_add-count c).In_ok-length_verdict)) }
