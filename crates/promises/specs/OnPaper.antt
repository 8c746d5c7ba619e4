-- A voxel's sum checked on paper (#105): made from what the records of its three axes hold.
use Rattle.std.specs.Prelude.{ℕ, ◌*◌, ◌≡◌, Bool, ◌&&◌, cond, List, length, get_or, Float}
use Rattle.std.specs.Float.{nan}
use Rattle.axis.specs.Coordinate.{kept}
use Rattle.request.specs.declared.Request.{Request}
use Rattle.request.specs.Sizes.{source_dims}
use Rattle.coverage.specs.Coverage.{drop_value}
use Rattle.voxels.specs.Sum.{Tap, lent}
use Rattle.voxels.specs.Voxel.{computed}
use Rattle.one_voxel.specs.Points.{PointCall}
use Rattle.promises.specs.Entries.{Entry, point_call}

-- the record of an axis of a request, asked for at output index i
abbrev pub axis_call : Entry → Request → ℕ → ℕ → List Float → List ℕ → List Float → PointCall
axis_call e r axis i = point_call e (get_or r.dims axis 0) (get_or r.factors axis nan) r.order r.prefilter r.mode i

-- lent for it: a place for the coordinate, six for neighbours and six for weights
pub record Places (c : List Float) (n : List ℕ) (w : List Float) : Type 0 where
  pub one : length c ≡ 1
  pub six : length n ≡ 6
  pub six' : length w ≡ 6

-- whether its coordinate is kept, and its neighbours with their weights
abbrev pub keeps : PointCall → Bool
keeps c = kept (get_or c.coordinate 0 nan)

abbrev pub taps : PointCall → Tap
taps c = lent c.at c.weight

-- kept on each axis, what the voxels or coefficients xs give by those neighbours and weights; else the value of a dropped voxel
abbrev pub by_hand : Request → List Float → PointCall → PointCall → PointCall → Float
by_hand r xs x y z =
    cond (keeps x && keeps y && keeps z)
    (computed r.order xs (get_or (source_dims r) 1 0 * get_or (source_dims r) 2 0) (get_or (source_dims r) 2 0) (taps x) (taps y) (taps z))
    (drop_value r.mode)
