-- `coverage::counts::count_codes` meets its contract: the counts so far are those of the codes passed.
use mathlib.Core.Path.{◌≡◌}
use lib.ListN.{take}
use Rattle.coverage.specs.Coverage.{counts_of}
use Rattle.coverage.proofs.counts.count_codes.Given as goal

abbrev pub invariant-loop-code : goal.invariant-loop-code
invariant-loop-code l = l.counts ≡ counts_of (take l.code-index l.coverage)
