-- `vurelika::vurelika_shift` meets its contract.
use Rattle.resample.specs.Call.{shift_call}
use Rattle.numbers.specs.Numbers.{request_of}
use Rattle.vurelika.proofs.Empty.{empty_refused_shift}
use Rattle.vurelika.proofs.Doors.{asked_for, unnumbered, answers, refuses, unknown}
use Rattle.vurelika.proofs.vurelika_shift.Goals as goal

pub returns-then-counts-eq-PLACES : goal.returns-then-counts-eq-PLACES
returns-then-counts-eq-PLACES c =
    let a = c.args in
    answers shift_call a.mode (request_of a.d0 a.d1 a.d2 a.f0 a.f1 a.f2 a.order a.prefilter a.mode a.fill) a.input.now a.output.now a.coverage.now a.work.now a.counts.now (asked_for _ c.in-Some.ensures).0 c.if-counts-eq-PLACES.true (asked_for _ c.in-Some.ensures).1 c.shift.ensures c.report.ensures.0 c.report.ensures.1

pub returns-else-counts-eq-PLACES : goal.returns-else-counts-eq-PLACES
returns-else-counts-eq-PLACES c =
    let a = c.args in
    refuses shift_call a.mode (request_of a.d0 a.d1 a.d2 a.f0 a.f1 a.f2 a.order a.prefilter a.mode a.fill) a.input.now a.output.now a.coverage.now a.work.now a.counts.now empty_refused_shift (asked_for _ c.in-Some.ensures).0 c.if-counts-eq-PLACES.false (asked_for _ c.in-Some.ensures).1 c.shift-else-counts-eq-PLACES.ensures c.number_in.ensures

pub returns-in-None : goal.returns-in-None
returns-in-None c =
    let a = c.args in
    unknown shift_call a.mode (request_of a.d0 a.d1 a.d2 a.f0 a.f1 a.f2 a.order a.prefilter a.mode a.fill) a.input.now a.output.now a.coverage.now a.work.now a.counts.now (unnumbered _ _ c.in-None.ensures) c.clear.ensures
