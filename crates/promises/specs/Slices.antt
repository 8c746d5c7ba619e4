-- #106, "single slices": "volumes with one axis of length 1". The words of its promises.
use Rattle.std.specs.Prelude.{ℕ, ◌<◌, ◌≡◌, true, false, get_or}
use Rattle.std.specs.Float.{nan}
use Rattle.std.specs.Float.Ieee.{eq}
use Rattle.exact.specs.Rounded.{num}
use Rattle.axis.specs.declared.coordinate.Axis.{Axis}
use Rattle.axis.specs.Coordinate.{settled}
use Rattle.axis.specs.Length.{output_length}
use Rattle.axis.specs.Point.{point_at, one_point, beside_at}
use Rattle.axis.specs.Folded.{folded_at}
use Rattle.coverage.specs.Coverage.{kept_at}
use Rattle.request.specs.declared.Request.{Request}
use Rattle.promises.specs.Entries.{Entry, shifting, zooming}

-- axis c has length 1
abbrev pub Slice : Request → ℕ → Type 0
Slice r c = (c < 3) × (get_or r.dims c 0 ≡ 1)

-- "a length-1 axis with another shift", than "shift 0 (either zero)", "or a zoom to other than 1"
abbrev pub Changed : Entry → Request → ℕ → Type 0
Changed shifting r c = eq (get_or r.factors c nan) (num 0) ≡ false
Changed zooming r c = output_length 1 (get_or r.factors c nan) ≡ 1 → ⊥

abbrev pub SomeChanged : Entry → Request → Type 0
SomeChanged e r = (c : ℕ) × Slice r c × Changed e r c

-- an output index of such an axis: its coordinate is 0, it is kept, refusal 9 and code 3 do not come of it, and it reads "its one voxel with a single weight of exactly 1"
pub record OneVoxel (r : Request) (a : Axis) (i : ℕ) : Type 0 where
  pub zeroth : settled r.mode a i ≡ num 0
  pub kept : kept_at r.mode a i ≡ true
  pub beside : beside_at r.mode a i ≡ false
  pub folded : folded_at r.order r.mode a i ≡ false
  pub reads : point_at r.order r.mode a i ≡ one_point
