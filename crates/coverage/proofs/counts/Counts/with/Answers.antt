-- `coverage::counts::Counts::with` meets its contract.
use borrow.Author.Tests.{eq-eqb}
use Rattle.coverage.specs.Coverage.{with_code}
use Rattle.coverage.proofs.Counting.{with_others}
use Rattle.coverage.proofs.counts.Counts.with.Goals as goal

pub returns-then-code-eq0 : goal.returns-then-code-eq0
unfolding with_code
returns-then-code-eq0 c = simp (eq-eqb _ _ c.if-code-eq0.true)

pub returns-else-code-eq0 : goal.returns-else-code-eq0
returns-else-code-eq0 c = with_others c.args.self c.args.code c.if-code-eq0.false c.from.ensures c.from-else-code-eq0.ensures c.from-else-code-eq0-2.ensures
