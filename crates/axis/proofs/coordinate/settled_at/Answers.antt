-- `axis::coordinate::settled_at` meets its contract.
use Rattle.std.proofs.Common.{sym}
use Rattle.exact.proofs.Literals.{two_bits}
use Rattle.axis.proofs.Coordinates.{settles_unfolded, settles_padded, settles_before}
use Rattle.axis.proofs.coordinate.settled_at.Goals as goal

pub returns-in-Never : goal.returns-in-Never
returns-in-Never c =
    let a = c.args in
    settles_unfolded a.mode a.a a.i c.float_of.result c.float_of.ensures c.folds_on.ensures c.in-Never.is

pub returns-in-WithPad : goal.returns-in-WithPad
returns-in-WithPad c =
    let a = c.args in
    settles_padded a.mode a.a a.i c.float_of.result c.float_of.ensures c.folds_on.ensures c.in-WithPad.is c.float_of-in-WithPad.result c.map_coordinates.result c.float_of-in-WithPad.ensures c.map_coordinates.ensures

pub returns-in-BeforePad : goal.returns-in-BeforePad
returns-in-BeforePad c =
    let a = c.args in
    let l = c.float_of-in-BeforePad in
    settles_before a.mode a.a a.i c.float_of.result c.float_of.ensures c.folds_on.ensures c.in-BeforePad.is l.result _ c.map_coordinates-in-BeforePad.result l.ensures (sym two_bits) c.map_coordinates-in-BeforePad.ensures
