-- `resample::write::Sampling::write_values` meets its contract.
use mathlib.Core.Path.{◌∙◌, sym, ap}
use mathlib.Core.List.{List}
use lib.Ieee.{Float}
use Rattle.voxels.specs.Voxel.{values}
use Rattle.resample.proofs.Preparing.{unfiltered}
use Rattle.resample.proofs.write.Sampling.write_values.Goals as goal

pub returns-else-filters-clause-values : goal.returns-else-filters-clause-values
returns-else-filters-clause-values c =
    let s = c.args.self.now in
    c.sweep-else-filters.ensures ∙ ap (λ (xs : List Float). values s.r.order s.r.mode s.axes.x s.axes.y s.axes.z xs) (unfiltered s.r s.input.now (sym c.filters.ensures ∙ c.if-filters.false))
