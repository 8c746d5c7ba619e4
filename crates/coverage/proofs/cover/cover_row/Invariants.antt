-- `coverage::cover::cover_row` meets its contract: the codes so far are those of the places passed.
use Prim.Native.Nat.{ℕ}
use lib.ListN.{get_or}
use Rattle.lists.specs.Bookkeeping.{Filled}
use Rattle.coverage.specs.declared.codes.Code.TheVariants.{Computed}
use Rattle.coverage.specs.Coverage.{number_of_code}
use Rattle.coverage.specs.Bookkeeping.{joined}
use Rattle.coverage.proofs.cover.cover_row.Given as goal

abbrev pub invariant-loop-k : goal.invariant-loop-k
invariant-loop-k l = Filled (λ (m : ℕ). number_of_code (joined l.others (get_or l.zs m Computed))) 0 l.row l.k
