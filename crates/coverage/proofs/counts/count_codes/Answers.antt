-- `coverage::counts::count_codes` meets its contract: the counts so far are those of the codes passed.
use mathlib.Core.Path.{sym, ap, ◌∙◌}
use native.Mathlib.Omega.{arith}
use lib.ListN.{get_or, take}
use lib.Seq.{length-take-le}
use Rattle.coverage.specs.declared.counts.Counts.{Counts}
use Rattle.coverage.specs.Coverage.{counts_of, counts_from, with_code, total}
use Rattle.coverage.proofs.Counting.{count_more, total_is}
use Rattle.coverage.proofs.counts.count_codes.Goals as goal

pub loop-code-init : goal.loop-code-init
unfolding counts_of counts_from
loop-code-init c = c.none-counts.ensures

pub with-counts-requires : goal.with-counts-requires
with-counts-requires c =
    let i = c.loop-code.code-index in
    let s = c.args.coverage.now in
    omega (arith, ap total c.loop-code.invariant, total_is (take i s), length-take-le i s (omega arith))

pub loop-code-preserved : goal.loop-code-preserved
loop-code-preserved c =
    let i = c.loop-code.code-index in
    let s = c.args.coverage.now in
    c.with-counts.ensures ∙ ap (λ (k : Counts). with_code k (get_or s i 0)) c.loop-code.invariant ∙ sym (count_more s i (omega arith))
