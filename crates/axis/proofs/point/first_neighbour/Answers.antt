-- `axis::point::first_neighbour` meets its contract.
use Rattle.exact.specs.Rounded.{◌⊖◌}
use Rattle.axis.specs.Neighbours.{first_neighbour}
use Rattle.axis.proofs.point.first_neighbour.Goals as goal

pub returns : goal.returns
unfolding first_neighbour
returns c = λ i. c.base_of.ensures i ⊖ c.float_of.ensures i
