-- `resample::shift` meets its contract.
use mathlib.Core.Path.{◌≡◌, ◌∙◌, sym}
use lib.ListN.{length}
use Rattle.prefilter.specs.Volume.{count_of}
use Rattle.refusal.specs.declared.Asked.TheVariants.{Volume}
use Rattle.request.specs.Sizes.{shift_axes}
use Rattle.refusal.specs.Bookkeeping.{Passes}
use Rattle.refusal.specs.Refusals.{first, shift_checks}
use Rattle.refusal.proofs.Firsts.{passed_up}
use Rattle.resample.specs.Call.{shift_call}
use Rattle.refusal.proofs.Admitting.{shift_passes}
use Rattle.resample.proofs.Answering.{write_passes, call_passed, call_refused}
use Rattle.resample.proofs.shift.Goals.{In_ok-shift_verdict}
use Rattle.resample.proofs.shift.Goals as goal
use Rattle.std.specs.Prelude.{Ok}

-- nothing was refused
module _ (c : In_ok-shift_verdict) where
  cleared : first (shift_checks Volume c.args.r c.args.input.now (length c.args.output.now) (length c.args.coverage.now) (length c.args.work.now)) ≡ Ok tt
  cleared = sym c.shift_verdict.ensures ∙ c.in_ok-shift_verdict.was

  passes : Passes c.args.r (shift_axes c.args.r) (count_of c.args.r.dims) (length c.args.input.now) (length c.args.output.now) (length c.args.coverage.now) (length c.args.work.now)
  passes = shift_passes Volume c.args.r c.args.input.now (length c.args.output.now) (length c.args.coverage.now) (length c.args.work.now) cleared

pub shift_axes-axes-requires : goal.shift_axes-axes-requires
shift_axes-axes-requires c = (passes c).admitted.lengths

pub invariant_of-write : goal.invariant_of-write
invariant_of-write c = record { admitted = (write_passes c.shift_axes-axes.ensures (passes (goal.at.invariant_of-write c).In_ok-shift_verdict)).admitted }

pub write-requires : goal.write-requires
write-requires c =
    let p = write_passes c.shift_axes-axes.ensures (passes (goal.at.write-requires c).In_ok-shift_verdict) in record { lengths = (p.values, p.codes); room = p.room }

pub returns : goal.returns
unfolding shift_call
returns c =
    let a = c.args in
    let axes = c.shift_axes-axes in
    call_passed a.r a.input.now a.output.now a.coverage.now a.work.now axes.result (shift_axes a.r) (cleared (goal.at.returns c).In_ok-shift_verdict) axes.ensures c.write.ensures

pub returns-in_err-shift_verdict : goal.returns-in_err-shift_verdict
unfolding shift_call
returns-in_err-shift_verdict c =
    let a = c.args in
    rw (passed_up _ c.from_residual.ensures.1) (call_refused a.r a.input.now a.output.now a.coverage.now a.work.now (shift_axes a.r) _ (sym c.shift_verdict.ensures ∙ c.in_err-shift_verdict.was))
