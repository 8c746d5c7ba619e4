-- "At order 0 the one voxel at the rounded index is copied. Else start at 0.0 and add voxel times (x weight times (y weight times z weight)). A voxel with a dropped axis takes the fill in Constant, else 0.0."
use Rattle.std.specs.Prelude.{ℕ, ◌+◌, ◌*◌, ◌&&◌, cond, List, eqb, get_or, Float}
use Rattle.std.specs.Float.{nan}
use Rattle.lists.specs.Tabulate.{tabulate}
use Rattle.border.specs.declared.BorderMode.{BorderMode}
use Rattle.axis.specs.declared.coordinate.Axis.{Axis}
use Rattle.axis.specs.declared.point.Point.{Point}
use Rattle.axis.specs.Point.{point_at}
use Rattle.voxels.specs.Sum.{Tap, sum_at}
use Rattle.voxels.specs.Sum.{lent}
use Rattle.coverage.specs.Coverage.{kept_at, drop_value, x_of, y_of, z_of}

-- the neighbours of a record
abbrev pub tap_of : Point → Tap
tap_of t = lent t.at t.weight

-- what is computed from the coefficients xs, with planes of `plane` places and rows of `row`
unfoldable pub computed : ℕ → List Float → ℕ → ℕ → Tap → Tap → Tap → Float
unfolding sum_at
computed order xs plane row x y z = cond (eqb order 0) (get_or xs (x.at 0 * plane + (y.at 0 * row + z.at 0)) nan) (sum_at xs plane row (order + 1) x y z)

-- the voxel i, j, k
unfoldable pub voxel_at : ℕ → BorderMode → Axis → Axis → Axis → List Float → ℕ → ℕ → ℕ → Float
unfolding computed kept_at point_at
voxel_at order mode xa ya za xs i j k =
    cond (kept_at mode xa i && kept_at mode ya j && kept_at mode za k)
    (computed order xs (ya.len * za.len) za.len (tap_of (point_at order mode xa i)) (tap_of (point_at order mode ya j)) (tap_of (point_at order mode za k)))
    (drop_value mode)

unfoldable pub values : ℕ → BorderMode → Axis → Axis → Axis → List Float → List Float
unfolding voxel_at tabulate
values order mode xa ya za xs =
    let row = za.out in
    let plane = ya.out * row in
    tabulate (xa.out * plane) (λ m. voxel_at order mode xa ya za xs (x_of plane m) (y_of plane row m) (z_of plane row m))
