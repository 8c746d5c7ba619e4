-- `vurelika::vurelika_spline_filter1d` meets its contract.
use Rattle.request.specs.declared.Request.{Request}
use Rattle.resample.specs.Call.{spline_filter1d_call}
use Rattle.numbers.specs.Numbers.{plain_request_of}
use Rattle.vurelika.proofs.Doors.{asked_for, unnumbered, filter_answers, filter_unknown}
use Rattle.vurelika.proofs.vurelika_spline_filter1d.Goals as goal

pub returns-in-Some : goal.returns-in-Some
returns-in-Some c =
    let a = c.args in
    filter_answers (λ (r : Request). spline_filter1d_call r a.axis a.input.now a.output.now) a.mode (plain_request_of a.d0 a.d1 a.d2 a.order 0 a.mode a.fill) a.output.now (asked_for _ c.in-Some.ensures).0 (asked_for _ c.in-Some.ensures).1 c.spline_filter1d.ensures c.number_in.ensures

pub returns-in-None : goal.returns-in-None
returns-in-None c = filter_unknown _ _ _ (unnumbered _ _ c.in-None.ensures)
