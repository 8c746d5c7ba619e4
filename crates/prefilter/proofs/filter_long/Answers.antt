-- `prefilter::filter_long` meets its contract.
use Rattle.prefilter.proofs.Axes.{along-axis}
use Rattle.prefilter.proofs.filter_long.Goals as goal

pub returns : goal.returns
returns c =
    let a = c.args in
    let along = c.lanes_along-blocks.ensures.along in
    along-axis a.mode a.order a.dims a.axis a.«data».now c.requires.axis_bound.1 c.reflects.ensures c.get_filter_poles.ensures c.filter_gain.ensures along.0 along.1 c.filter_blocks.ensures
