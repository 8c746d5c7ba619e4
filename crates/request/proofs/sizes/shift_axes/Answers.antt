-- `request::sizes::shift_axes` meets its contract.
use lib.Dec.{lit≤}
use Rattle.request.proofs.Requests.{padding_most}
use Rattle.request.proofs.sizes.shift_axes.Goals as goal

pub shift_axis-requires : goal.shift_axis-requires
shift_axis-requires c = ((c.requires 0 (lit≤ tt)).1, padding_most c.args.r 0 c.padding.ensures)

pub shift_axis-requires-2 : goal.shift_axis-requires-2
shift_axis-requires-2 c = ((c.requires 1 (lit≤ tt)).1, padding_most c.args.r 1 c.padding-2.ensures)

pub shift_axis-requires-3 : goal.shift_axis-requires-3
shift_axis-requires-3 c = ((c.requires 2 (lit≤ tt)).1, padding_most c.args.r 2 c.padding-3.ensures)
