-- #104, "a nearest mode that repeats the edge". The words of its promises: the same request in another mode, whole coordinates, and what the manual lets stand there.
use Rattle.std.specs.Prelude.{ℕ, ◌≡◌, false, List, ℤ, get_or}
use Rattle.std.specs.Float.Ieee.{lt}
use Rattle.exact.specs.Rounded.{◌⊖◌, num}
use Rattle.exact.specs.Whole.{Is}
use Rattle.border.specs.declared.BorderMode.{BorderMode}
use Rattle.border.specs.declared.BorderMode.TheVariants.{Replicate}
use Rattle.border.specs.Manual.{Stands}
use Rattle.axis.specs.declared.coordinate.Axis.{Axis}
use Rattle.axis.specs.Coordinate.{unpadded, unpadded_length}
use Rattle.request.specs.declared.Axes.{Axes}
use Rattle.request.specs.declared.Request.{Request}

abbrev pub in_mode : BorderMode → Request → Request
in_mode mode r = record { dims = r.dims; factors = r.factors; order = r.order; prefilter = r.prefilter; mode = mode }

-- "at whole coordinates": those of the voxel i, j, k are l, m and n
pub record WholeAt (a : Axes) (l m n : ℤ) (i j k : ℕ) : Type 0 where
  pub x : Is (unpadded a.x i) l
  pub y : Is (unpadded a.y j) m
  pub z : Is (unpadded a.z k) n

-- "the manual's rule": it lets the voxel u, v, w of a volume with these lengths stand there
pub record StandsAt (d : List ℕ) (l m n : ℤ) (u v w : ℕ) : Type 0 where
  pub x : Stands Replicate (get_or d 0 0) l u
  pub y : Stands Replicate (get_or d 1 0) m v
  pub z : Stands Replicate (get_or d 2 0) n w

-- the coordinate of output index i lies from 0 to L - 1; so on each axis
abbrev pub InScan : Axis → ℕ → Type 0
InScan a i = (lt (unpadded a i) (num 0) ≡ false) × (lt (unpadded_length a ⊖ num 1) (unpadded a i) ≡ false)

abbrev pub AllInScan : Axes → ℕ → ℕ → ℕ → Type 0
AllInScan a i j k = InScan a.x i × InScan a.y j × InScan a.z k
