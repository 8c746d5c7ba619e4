-- `resample::spline_filter` meets its contract.
use Prim.Native.Nat.{◌≤◌}
use mathlib.Core.Path.{◌≡◌, sym, ap, ◌∙◌}
use mathlib.Core.List.{List}
use lib.ListN.{length}
use lib.Ieee.{Float}
use Rattle.prefilter.specs.Volume.{filter_volume}
use Rattle.refusal.specs.Refusals.{first, spline_filter_checks}
use Rattle.refusal.proofs.Firsts.{passed_up}
use Rattle.resample.specs.Call.{spline_filter_call}
use Rattle.resample.proofs.Filtering.{Filters, volume_admitted, as_long, sized, answer_passed, answer_refused}
use Rattle.resample.proofs.spline_filter.Goals.{In_ok-spline_filter_verdict}
use Rattle.resample.proofs.spline_filter.Goals as goal
use Rattle.std.specs.Prelude.{Ok}

passed : (c : In_ok-spline_filter_verdict) → first (spline_filter_checks c.args.r c.args.input.now (length c.args.output.now)) ≡ Ok tt
passed c = sym c.spline_filter_verdict.ensures ∙ c.in_ok-spline_filter_verdict.was

admitted : (c : In_ok-spline_filter_verdict) → (2 ≤ c.args.r.order) × Filters c.args.r (length c.args.input.now) (length c.args.output.now)
admitted c = volume_admitted c.args.r c.args.input.now (length c.args.output.now) (passed c)

pub copy-requires : goal.copy-requires
copy-requires c = as_long (admitted (goal.at.copy-requires c).In_ok-spline_filter_verdict).1

pub filter_volume-requires : goal.filter_volume-requires
filter_volume-requires c =
    let h = admitted (goal.at.filter_volume-requires c).In_ok-spline_filter_verdict in record { sized = sized h.1 c.copy.auto.to; le_order = (h.0, h.1.order) }

pub returns : goal.returns
unfolding spline_filter_call
returns c =
    let a = c.args in
    answer_passed a.output.now (passed (goal.at.returns c).In_ok-spline_filter_verdict) (c.filter_volume.ensures ∙ ap (λ (xs : List Float). filter_volume a.r.mode a.r.order a.r.dims xs) c.copy.ensures)

pub returns-in_err-spline_filter_verdict : goal.returns-in_err-spline_filter_verdict
unfolding spline_filter_call
returns-in_err-spline_filter_verdict c = let a = c.args in rw (passed_up _ c.from_residual.ensures.1) (answer_refused (filter_volume a.r.mode a.r.order a.r.dims a.input.now) a.output.now (sym c.spline_filter_verdict.ensures ∙ c.in_err-spline_filter_verdict.was))
