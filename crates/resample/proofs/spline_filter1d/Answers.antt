-- `resample::spline_filter1d` meets its contract.
use Prim.Native.Nat.{◌≤◌}
use mathlib.Core.Path.{◌≡◌, sym, ap, ◌∙◌}
use mathlib.Core.List.{List}
use mathlib.Core.Bool.{cond}
use lib.Dec.{ltb}
use lib.ListN.{length}
use lib.Ieee.{Float}
use borrow.Author.Tests.{lt-ltb, le-ltb}
use Rattle.prefilter.specs.Volume.{filter_axis}
use Rattle.refusal.specs.Refusals.{first, spline_filter1d_checks}
use Rattle.refusal.proofs.Firsts.{passed_up}
use Rattle.resample.specs.Call.{spline_filter1d_call}
use Rattle.resample.proofs.Filtering.{Filters, axis_admitted, as_long, sized, answer_passed, answer_refused, done, left}
use Rattle.resample.proofs.spline_filter1d.Goals.{In_ok-spline_filter1d_verdict}
use Rattle.resample.proofs.spline_filter1d.Goals as goal
use Rattle.std.specs.Prelude.{Ok}

passed : (c : In_ok-spline_filter1d_verdict) → first (spline_filter1d_checks c.args.r c.args.axis c.args.input.now (length c.args.output.now)) ≡ Ok tt
passed c = sym c.spline_filter1d_verdict.ensures ∙ c.in_ok-spline_filter1d_verdict.was

admitted : (c : In_ok-spline_filter1d_verdict) → (c.args.axis ≤ 2) × Filters c.args.r (length c.args.input.now) (length c.args.output.now)
admitted c = axis_admitted c.args.r c.args.input.now (length c.args.output.now) c.args.axis (passed c)

pub copy-requires : goal.copy-requires
copy-requires c = as_long (admitted (goal.at.copy-requires c).In_ok-spline_filter1d_verdict).1

pub filter_axis-requires : goal.filter_axis-requires
filter_axis-requires c =
    let h = admitted (goal.at.filter_axis-requires c).In_ok-spline_filter1d_verdict in record { sized = sized h.1 c.copy.auto.to; axis_bound = h.0; le_order = (c.if-r-gt1.true, h.1.order) }

pub returns-then-r-gt1 : goal.returns-then-r-gt1
unfolding spline_filter1d_call
returns-then-r-gt1 c =
    let a = c.args in
    answer_passed a.output.now (passed (goal.at.returns-then-r-gt1 c).In_ok-spline_filter1d_verdict) (done a.input.now (lt-ltb _ _ c.if-r-gt1.true) (c.filter_axis.ensures ∙ ap (λ (xs : List Float). filter_axis a.r.mode a.r.order a.r.dims a.axis xs) c.copy.ensures))

pub returns-else-r-gt1 : goal.returns-else-r-gt1
unfolding spline_filter1d_call
returns-else-r-gt1 c =
    let a = c.args in
    answer_passed a.output.now (passed (goal.at.returns-else-r-gt1 c).In_ok-spline_filter1d_verdict) (left (filter_axis a.r.mode a.r.order a.r.dims a.axis a.input.now) (le-ltb _ _ c.if-r-gt1.false) c.copy.ensures)

pub returns-in_err-spline_filter1d_verdict : goal.returns-in_err-spline_filter1d_verdict
unfolding spline_filter1d_call
returns-in_err-spline_filter1d_verdict c = let a = c.args in rw (passed_up _ c.from_residual.ensures.1) (answer_refused (cond (ltb 1 a.r.order) (filter_axis a.r.mode a.r.order a.r.dims a.axis a.input.now) a.input.now) a.output.now (sym c.spline_filter1d_verdict.ensures ∙ c.in_err-spline_filter1d_verdict.was))
