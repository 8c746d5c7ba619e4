-- `coverage::cover::axis_codes` meets its contract: the codes so far are those of the indices passed.
use Rattle.lists.specs.Bookkeeping.{Filled}
use Rattle.coverage.specs.declared.codes.Code.TheVariants.{Computed}
use Rattle.coverage.specs.Bookkeeping.{axis_code}
use Rattle.coverage.proofs.cover.axis_codes.Given as goal

abbrev pub invariant-loop-i : goal.invariant-loop-i
invariant-loop-i l = Filled (axis_code l.order l.mode l.a) Computed l.codes l.i
