-- What the filters of a volume ask.
use Rattle.std.specs.Prelude.{ℕ, ◌≤◌, ◌<◌, List, ◌≡◌}
use Rattle.limits.specs.Limits.{longest_padded}
use Rattle.prefilter.specs.Volume.{length_of, count_of}

-- three axes from 1 to 4,120 long, and a buffer of as many places
pub record Sized (d : List ℕ) (count : ℕ) : Type 0 where
  pub least : (axis : ℕ) → axis < 3 → 1 ≤ length_of axis d
  pub most : (axis : ℕ) → axis < 3 → length_of axis d ≤ longest_padded
  pub all : count ≡ count_of d
