-- `request::sizes::zoom_axes` meets its contract.
use lib.Dec.{lit≤}
use Rattle.request.proofs.Requests.{padding_most}
use Rattle.request.proofs.sizes.zoom_axes.Goals as goal

pub zoom_axis-requires : goal.zoom_axis-requires
zoom_axis-requires c = (c.requires.lengths 0 (lit≤ tt), ((c.requires.out_value.1 0 (lit≤ tt)).0, padding_most c.args.r 0 c.padding.ensures))

pub zoom_axis-requires-2 : goal.zoom_axis-requires-2
zoom_axis-requires-2 c = (c.requires.lengths 1 (lit≤ tt), ((c.requires.out_value.1 1 (lit≤ tt)).0, padding_most c.args.r 1 c.padding-2.ensures))

pub zoom_axis-requires-3 : goal.zoom_axis-requires-3
zoom_axis-requires-3 c = (c.requires.lengths 2 (lit≤ tt), ((c.requires.out_value.1 2 (lit≤ tt)).0, padding_most c.args.r 2 c.padding-3.ensures))
