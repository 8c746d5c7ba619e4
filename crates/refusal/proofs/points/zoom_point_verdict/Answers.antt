-- `refusal::points::zoom_point_verdict` meets its contract.
use mathlib.Core.Path.{◌≡◌}
use mathlib.Core.Bool.{false}
use Rattle.axis.proofs.Coordinates.{pad_most}
use Rattle.request.specs.Conditions.{bad_length}
use Rattle.request.proofs.Requests.{good_length, good_output, good_zoom}
use Rattle.refusal.proofs.Firsts.{let_pass}
use Rattle.refusal.proofs.points.zoom_point_verdict.Goals.{In_ok-refuse_if-2}
use Rattle.refusal.proofs.points.zoom_point_verdict.Goals as goal

long : (c : In_ok-refuse_if-2) → bad_length c.args.length ≡ false
long c = let_pass _ c.bad_length.ensures c.refuse_if-2.ensures c.in_ok-refuse_if-2.was

pub output_length-out-requires : goal.output_length-out-requires
output_length-out-requires c = good_zoom c.args.length c.args.factor (long (goal.at.output_length-out-requires c).In_ok-refuse_if-2) (let_pass _ c.bad_zoom.ensures c.refuse_if-3.ensures c.in_ok-refuse_if-3.was)

pub zoom_axis-a-requires : goal.zoom_axis-a-requires
zoom_axis-a-requires c =
    let a = c.args in
    let out = c.output_length-out.result in (
      good_length a.length (long (goal.at.zoom_axis-a-requires c).In_ok-refuse_if-2),
      ((good_output a.length out (let_pass _ c.zooms_slice.ensures c.refuse_if-4.ensures c.in_ok-refuse_if-4.was) (let_pass _ c.bad_output.ensures c.refuse_if-5.ensures c.in_ok-refuse_if-5.was)).0.0, pad_most a.mode a.prefilter a.order a.length c.pad_of.ensures),
    )
