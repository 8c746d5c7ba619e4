-- `prefilter::filter_axis` meets its contract: the lanes of a single slice are left alone.
use mathlib.Core.Path.{◌∙◌, sym}
use Rattle.prefilter.proofs.Axes.{along-single}
use Rattle.prefilter.proofs.filter_axis.Goals as goal

pub returns-else-not-is_single : goal.returns-else-not-is_single
returns-else-not-is_single c = let a = c.args in sym (along-single a.mode a.order a.dims a.axis a.«data».now (sym c.is_single.ensures ∙ c.if-not-is_single.false))
