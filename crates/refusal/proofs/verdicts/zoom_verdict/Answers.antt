-- `refusal::verdicts::zoom_verdict` meets its contract: what refusals 3, 4, 12 and 5 let pass is what the rest asks for.
use mathlib.Core.Path.{◌≡◌}
use mathlib.Core.Bool.{false}
use Rattle.request.specs.Bookkeeping.{Lengths}
use Rattle.request.specs.Conditions.{bad_lengths}
use Rattle.request.proofs.Requests.{good_lengths, good_outputs, good_zooms}
use Rattle.refusal.proofs.Firsts.{let_pass}
use Rattle.refusal.proofs.verdicts.zoom_verdict.Goals.{In_ok-refuse_if-2, In_ok-refuse_if-5}
use Rattle.refusal.proofs.verdicts.zoom_verdict.Goals as goal

lengths : (c : In_ok-refuse_if-2) → bad_lengths c.args.r.dims ≡ false
lengths c = let_pass _ c.bad_lengths.ensures c.refuse_if-2.ensures c.in_ok-refuse_if-2.was

outs : (c : In_ok-refuse_if-5) → Lengths c.zoom_dims-out.result
outs c i l = (good_outputs c.args.r.dims c.zoom_dims-out.result (let_pass _ c.zooms_slices.ensures c.refuse_if-4.ensures c.in_ok-refuse_if-4.was) (let_pass _ c.bad_outputs.ensures c.refuse_if-5.ensures c.in_ok-refuse_if-5.was) i l).0

pub zoom_dims-out-requires : goal.zoom_dims-out-requires
zoom_dims-out-requires c = good_zooms c.args.r (lengths (goal.at.zoom_dims-out-requires c).In_ok-refuse_if-2) (let_pass _ c.bad_zooms.ensures c.refuse_if-3.ensures c.in_ok-refuse_if-3.was)

pub zoom_axes-requires : goal.zoom_axes-requires
zoom_axes-requires c = record { lengths = good_lengths c.args.r.dims (lengths (goal.at.zoom_axes-requires c).In_ok-refuse_if-2); out_value = (c.zoom_dims-out.ensures, outs (goal.at.zoom_axes-requires c).In_ok-refuse_if-5) }

pub resample_verdict-requires : goal.resample_verdict-requires
resample_verdict-requires c = record { lengths = good_lengths c.args.r.dims (lengths (goal.at.resample_verdict-requires c).In_ok-refuse_if-2); lengths_2 = outs (goal.at.resample_verdict-requires c).In_ok-refuse_if-5 }
