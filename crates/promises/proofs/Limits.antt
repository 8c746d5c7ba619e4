-- Both sides of each limit come out when the tests are computed.
use lib.Dec.{T}
use lib.Ieee.{of_int, of_bits, round, neg, add, sub, mul, div, lt, le, eq, to_unsigned}
use Rattle.lists.specs.Every.{every}
use Rattle.lists.specs.Some.{some_below}
use Rattle.exact.specs.Floor.{floor_f}
use Rattle.exact.specs.Round.{round_ties_even_f}
use Rattle.border.specs.Fold.{fold, fold_constant, fold_replicate}
use Rattle.axis.specs.Coordinate.{unpadded, coordinate, settled}
use Rattle.axis.specs.Length.{output_length}
use Rattle.axis.specs.Neighbours.{first_neighbour}
use Rattle.axis.specs.Point.{beside_at, some_beside}
use Rattle.axis.specs.Weights.{base}
use Rattle.promises.specs.Limits.{sides, right}

pub sides-right : T (every right sides)
unfolding sides output_length some_beside some_below beside_at settled unpadded coordinate fold fold_constant fold_replicate first_neighbour base floor_f round_ties_even_f of_int of_bits round neg add sub mul div lt le eq to_unsigned
sides-right = tt
