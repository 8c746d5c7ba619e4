-- `refusal::points::shift_point_verdict` meets its contract.
use Rattle.axis.proofs.Coordinates.{pad_most}
use Rattle.request.proofs.Requests.{good_length}
use Rattle.refusal.proofs.Firsts.{let_pass}
use Rattle.refusal.proofs.points.shift_point_verdict.Goals as goal

pub shift_axis-a-requires : goal.shift_axis-a-requires
shift_axis-a-requires c =
    let a = c.args in
    ((good_length a.length (let_pass _ c.bad_length.ensures c.refuse_if-2.ensures c.in_ok-refuse_if-2.was)).1, pad_most a.mode a.prefilter a.order a.length c.pad_of.ensures)
