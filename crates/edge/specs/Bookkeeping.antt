-- The pad row by row and plane by plane, as the code makes it.
use Rattle.std.specs.Prelude.{ℕ, ◌+◌, ◌*◌, ◌/◌, ◌%◌, List, length, Float}
use Rattle.limits.specs.Limits.{wide_of}
use Rattle.lists.specs.Tabulate.{tabulate}
use Rattle.lane.specs.Lane.{at}
use Rattle.edge.specs.Edge.{clamped}

unfoldable pub padded_row : List Float → List Float
unfolding tabulate
padded_row xs = tabulate (wide_of (length xs)) (λ k. at xs (clamped (length xs) k))

unfoldable pub padded_plane : ℕ → ℕ → List Float → List Float
unfolding tabulate
padded_plane rows row xs = tabulate (wide_of rows * wide_of row) (λ m. at xs (clamped rows (m / wide_of row) * row + clamped row (m % wide_of row)))
