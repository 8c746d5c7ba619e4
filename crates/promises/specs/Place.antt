-- "Volumes are flat f64 buffers, last index fastest": the voxel x, y, z of a volume with these lengths.
use Rattle.std.specs.Prelude.{ℕ, ◌+◌, ◌*◌, ◌<◌, List, get_or, Float}
use Rattle.std.specs.Float.{nan}

abbrev pub place_of : List ℕ → ℕ → ℕ → ℕ → ℕ
place_of d x y z = x * (get_or d 1 0 * get_or d 2 0) + (y * get_or d 2 0 + z)

pub record Inside (d : List ℕ) (i j k : ℕ) : Type 0 where
  pub x : i < get_or d 0 0
  pub y : j < get_or d 1 0
  pub z : k < get_or d 2 0

abbrev pub voxel : List ℕ → List Float → ℕ → ℕ → ℕ → Float
voxel d values x y z = get_or values (place_of d x y z) nan

abbrev pub code : List ℕ → List ℕ → ℕ → ℕ → ℕ → ℕ
code d codes x y z = get_or codes (place_of d x y z) 0
