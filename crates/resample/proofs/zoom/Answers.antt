-- `resample::zoom` meets its contract.
use Prim.Native.Nat.{ℕ}
use mathlib.Core.Path.{◌≡◌, ◌∙◌, sym, subst}
use mathlib.Core.List.{List}
use lib.ListN.{length}
use Rattle.prefilter.specs.Volume.{count_of}
use Rattle.refusal.specs.declared.Asked.TheVariants.{Volume}
use Rattle.request.specs.Sizes.{zoom_dims, zoom_axes}
use Rattle.request.specs.Bookkeeping.{Lengths, Zoomed}
use Rattle.refusal.specs.Bookkeeping.{Passes}
use Rattle.refusal.specs.Refusals.{first, zoom_checks}
use Rattle.refusal.proofs.Firsts.{passed_up}
use Rattle.resample.specs.Call.{zoom_call}
use Rattle.refusal.proofs.Admitting.{zoom_passes, zoom_ready}
use Rattle.resample.proofs.Answering.{write_passes, call_passed, call_refused}
use Rattle.resample.proofs.zoom.Goals.{In_ok-zoom_verdict}
use Rattle.resample.proofs.zoom.Goals as goal
use Rattle.std.specs.Prelude.{Ok}

-- nothing was refused
module _ (c : In_ok-zoom_verdict) where
  cleared : first (zoom_checks Volume c.args.r c.args.input.now (length c.args.output.now) (length c.args.coverage.now) (length c.args.work.now)) ≡ Ok tt
  cleared = sym c.zoom_verdict.ensures ∙ c.in_ok-zoom_verdict.was

  passes : Passes c.args.r (zoom_axes c.args.r) (count_of (zoom_dims c.args.r)) (length c.args.input.now) (length c.args.output.now) (length c.args.coverage.now) (length c.args.work.now)
  passes = zoom_passes Volume c.args.r c.args.input.now (length c.args.output.now) (length c.args.coverage.now) (length c.args.work.now) cleared

  ready : Zoomed c.args.r × Lengths (zoom_dims c.args.r)
  ready = zoom_ready Volume c.args.r c.args.input.now (length c.args.output.now) (length c.args.coverage.now) (length c.args.work.now) cleared

pub zoom_dims-requires : goal.zoom_dims-requires
zoom_dims-requires c = (ready c).0

pub zoom_axes-axes-requires : goal.zoom_axes-axes-requires
zoom_axes-axes-requires c = record { lengths = (passes (goal.at.zoom_axes-axes-requires c).In_ok-zoom_verdict).admitted.lengths; out_value = (c.zoom_dims.ensures, subst (λ (d : List ℕ). Lengths d) (sym c.zoom_dims.ensures) (ready (goal.at.zoom_axes-axes-requires c).In_ok-zoom_verdict).1) }

pub invariant_of-write : goal.invariant_of-write
invariant_of-write c = record { admitted = (write_passes c.zoom_axes-axes.ensures (passes (goal.at.invariant_of-write c).In_ok-zoom_verdict)).admitted }

pub write-requires : goal.write-requires
write-requires c =
    let p = write_passes c.zoom_axes-axes.ensures (passes (goal.at.write-requires c).In_ok-zoom_verdict) in record { lengths = (p.values, p.codes); room = p.room }

pub returns : goal.returns
unfolding zoom_call
returns c =
    let a = c.args in
    let axes = c.zoom_axes-axes in
    call_passed a.r a.input.now a.output.now a.coverage.now a.work.now axes.result (zoom_axes a.r) (cleared (goal.at.returns c).In_ok-zoom_verdict) axes.ensures c.write.ensures

pub returns-in_err-zoom_verdict : goal.returns-in_err-zoom_verdict
unfolding zoom_call
returns-in_err-zoom_verdict c =
    let a = c.args in
    rw (passed_up _ c.from_residual.ensures.1) (call_refused a.r a.input.now a.output.now a.coverage.now a.work.now (zoom_axes a.r) _ (sym c.zoom_verdict.ensures ∙ c.in_err-zoom_verdict.was))
