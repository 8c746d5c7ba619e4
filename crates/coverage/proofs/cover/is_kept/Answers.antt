-- `coverage::cover::is_kept` meets its contract.
use mathlib.Core.Path.{ap}
use lib.Ieee.{Float, of_bits, of_int}
use Rattle.axis.specs.Coordinate.{kept}
use Rattle.coverage.specs.Coverage.{kept_at}
use Rattle.coverage.proofs.cover.is_kept.Goals as goal

pub returns : goal.returns
unfolding kept_at of_bits of_int
returns c = ap (λ (x : Float). kept x) c.settled_at.ensures
