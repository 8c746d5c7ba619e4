-- The lanes in a buffer, and a filter along them.
use Rattle.std.specs.Prelude.{ℕ, ◌+◌, ◌-◌, ◌*◌, ◌/◌, ◌%◌, List, length, Float}
use Rattle.lists.specs.Tabulate.{tabulate}
use Rattle.lane.specs.Lane.{at}

-- the n numbers from place `start` on, `stride` apart
unfoldable pub lane_of : ℕ → ℕ → ℕ → List Float → List Float
unfolding tabulate
lane_of n stride start xs = tabulate n (λ i. at xs (start + i * stride))

-- how far along its lane place m stands
abbrev pub along : ℕ → ℕ → ℕ → ℕ
along n stride m = m / stride % n

-- f applied to each lane
unfoldable pub filter_along : (List Float → List Float) → ℕ → ℕ → List Float → List Float
unfolding lane_of tabulate
filter_along f n stride xs = tabulate (length xs) (λ m. at (f (lane_of n stride (m - along n stride m * stride) xs)) (along n stride m))
