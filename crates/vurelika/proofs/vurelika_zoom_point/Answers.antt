-- `vurelika::vurelika_zoom_point` meets its contract: the literal 0.0 is the number 0.
use lib.Ieee.{of_bits, of_int}
use Rattle.vurelika.specs.Door.{zoom_pointing}
use Rattle.vurelika.proofs.Doors.{asked_for, unnumbered, point_answers, point_unknown}
use Rattle.vurelika.proofs.vurelika_zoom_point.Goals as goal

pub returns-in-Some : goal.returns-in-Some
unfolding of_bits of_int
returns-in-Some c =
    let a = c.args in
    point_answers (zoom_pointing a.length a.factor a.order a.index) a.prefilter a.mode a.coordinate.now a.neighbours.now a.weights.now (asked_for _ c.in-Some.ensures).0 (asked_for _ c.in-Some.ensures).1 c.zoom_point.ensures c.number_in.ensures

pub returns-in-None : goal.returns-in-None
returns-in-None c = let a = c.args in point_unknown (zoom_pointing a.length a.factor a.order a.index) a.prefilter a.mode a.coordinate.now a.neighbours.now a.weights.now (unnumbered _ _ c.in-None.ensures)
