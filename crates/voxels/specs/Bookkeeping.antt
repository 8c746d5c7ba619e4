-- How the code keeps and lends what the sums read: a table for axis 2, four voxels at a time; and the values as it makes them, in a row, in a plane, in the volume.
use Rattle.std.specs.Prelude.{ℕ, zero, suc, ◌+◌, ◌*◌, ◌/◌, ◌%◌, ◌≤◌, ◌<◌, ◌≡◌, Bool, false, ◌&&◌, cond, List, length, get_or, set, Float}
use Rattle.std.specs.Float.{nan}
use Rattle.limits.specs.Limits.{longest}
use Rattle.lists.specs.Bookkeeping.{Filled}
use Rattle.border.specs.declared.BorderMode.{BorderMode}
use Rattle.axis.specs.declared.coordinate.Axis.{Axis}
use Rattle.axis.specs.declared.point.Point.{Point}
use Rattle.axis.specs.Point.{is_kept, point_at}
use Rattle.voxels.specs.declared.source.Source.{Source}
use Rattle.voxels.specs.declared.sum.Four.{Four}
use Rattle.voxels.specs.declared.table.Table.{Table}
use Rattle.coverage.specs.Coverage.{kept_at, drop_value}
use Rattle.voxels.specs.Sum.{Tap, sum_at}
use Rattle.voxels.specs.Voxel.{tap_of, computed}

-- ---- the neighbours of the last axis: a column of `longest` places for each of six, and room for the last block of the last column
abbrev pub table_size : ℕ
table_size = 6 * longest + 4

-- those of place o of a row, each neighbour's in its own column
abbrev pub column : Table → ℕ → Tap
column t o = record { at = λ k. get_or t.at (k * longest + o) 0; weight = λ k. get_or t.weight (k * longest + o) nan }

-- the first n neighbours name stretches of `size` places that lie within `count`
abbrev pub Planes : List ℕ → ℕ → ℕ → ℕ → Type 0
Planes at n size count = (k : ℕ) → k < n → (get_or at k 0 + 1) * size ≤ count

-- the records x and y name planes of the source, and rows of a plane
pub record InSource (s : Source) (x y : Point) : Type 0 where
  pub planes : Planes x.at (s.order + 1) s.plane (length s.numbers.now)
  pub rows : Planes y.at (s.order + 1) s.row s.plane

-- each place of the table names a place of the row
abbrev pub Inside : Table → ℕ → Type 0
Inside t row = (m : ℕ) → m < table_size → get_or t.at m 0 < row

-- ---- the voxels of a block are numbered 0 to 3; any other number stands for the last
abbrev pub lane : ℕ → ℕ
lane zero = 0
lane (suc zero) = 1
lane (suc (suc zero)) = 2
lane (suc (suc (suc j))) = 3

abbrev pub at_lane : {A : Type 0} → Four A → ℕ → A
at_lane f zero = f.a
at_lane f (suc zero) = f.b
at_lane f (suc (suc zero)) = f.c
at_lane f (suc (suc (suc j))) = f.d

abbrev pub Each : {A : Type 0} → (A → Type 0) → Four A → Type 0
Each P f = P f.a × (P f.b × (P f.c × P f.d))

-- ---- the table
-- the first i output indices have their columns and flags
pub record Tabled (order : ℕ) (mode : BorderMode) (a : Axis) (t : Table) (i : ℕ) : Type 0 where
  pub inside : Inside t a.len
  pub kept : Filled (kept_at mode a) false t.kept i
  pub places : (j k : ℕ) → j < i → k < 6 → get_or t.at (k * longest + j) 0 ≡ get_or (point_at order mode a j).at k 0
  pub weights : (j k : ℕ) → j < i → k < 6 → get_or t.weight (k * longest + j) nan ≡ get_or (point_at order mode a j).weight k nan

-- l is l₀ with the numbers of c at the places k * longest + i
pub record Column {A : Type 0} (d : A) (i : ℕ) (c l₀ l : List A) (n : ℕ) : Type 0 where
  pub same : length l ≡ length l₀
  pub set : (k : ℕ) → k < n → get_or l (k * longest + i) d ≡ get_or c k d
  pub rest : (m : ℕ) → ((k : ℕ) → k < n → m ≡ k * longest + i → ⊥) → get_or l m d ≡ get_or l₀ m d

-- ---- the values
-- what is computed from a source; and the sum, where its order is above 0
abbrev pub computed_of : Source → Tap → Tap → Tap → Float
computed_of s x y z = computed s.order s.numbers.now s.plane s.row x y z

abbrev pub sum_of : Source → Tap → Tap → Tap → Float
sum_of s x y z = sum_at s.numbers.now s.plane s.row (s.order + 1) x y z

-- a row with the value of place k, if it has that place; and of the four from o on
abbrev pub with_voxel : List Bool → Float → List Float → ℕ → Float → List Float
with_voxel flags dropped l k value = set l k (cond (get_or flags k false) value dropped)

abbrev pub with_four : List Bool → Float → List Float → ℕ → Four Float → List Float
with_four flags dropped l o v =
    let put = with_voxel flags dropped in
    put (put (put (put l o v.a) (o + 1) v.b) (o + 2) v.c) (o + 3) v.d

-- place k of a row at the records x and y
abbrev pub row_value : BorderMode → Source → Table → Point → Point → ℕ → Float
row_value mode s t x y k = cond (is_kept x.mark && is_kept y.mark && get_or t.kept k false) (computed_of s (tap_of x) (tap_of y) (column t k)) (drop_value mode)

-- place m of a plane at the record x
abbrev pub plane_value : BorderMode → Source → Table → Point → Axis → ℕ → Float
plane_value mode s t x ya m = row_value mode s t x (point_at s.order mode ya (m / t.width)) (m % t.width)

-- place m of the volume
abbrev pub volume_value : BorderMode → Source → Table → Axis → Axis → ℕ → Float
volume_value mode s t xa ya m =
    let size = ya.out * t.width in
    plane_value mode s t (point_at s.order mode xa (m / size)) ya (m % size)
