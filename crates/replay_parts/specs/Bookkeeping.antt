-- What the replay asks of an axis and of a volume.
use Rattle.std.specs.Prelude.{◌≡◌, ℕ, ◌<◌, ◌≤◌, List}
use Rattle.exact.specs.Within.{Within}
use Rattle.limits.specs.Limits.{longest, longest_padded}
use Rattle.axis.specs.declared.coordinate.Axis.{Axis}
use Rattle.axis.specs.Coordinate.{unpadded}
use Rattle.prefilter.specs.Volume.{length_of, count_of}

-- an axis whose records may be asked for, at every output index up to the longest
pub record Reachable (a : Axis) : Type 0 where
  pub least : 2 ≤ a.len
  pub most : a.len ≤ longest_padded
  pub bound : (i : ℕ) → i ≤ longest → Within 25 (unpadded a i)
  pub pad : Within 25 a.pad

-- a volume of three axes from 2 to 256 long, and how many voxels it has
pub record Counted (d : List ℕ) (n : ℕ) : Type 0 where
  pub least : (axis : ℕ) → axis < 3 → 2 ≤ length_of axis d
  pub most : (axis : ℕ) → axis < 3 → length_of axis d ≤ 256
  pub all : n ≡ count_of d
