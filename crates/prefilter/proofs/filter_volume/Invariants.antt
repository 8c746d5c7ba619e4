-- `prefilter::filter_volume` meets its contract: the axes below `axis` are filtered.
use mathlib.Core.Path.{◌≡◌}
use Rattle.prefilter.proofs.Axes.{turns}
use Rattle.prefilter.proofs.filter_volume.Given as goal

abbrev pub invariant-loop-axis : goal.invariant-loop-axis
invariant-loop-axis l = l.data ≡ turns l.mode l.order l.dims l.axis l.initial.data
