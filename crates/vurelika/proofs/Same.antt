-- Two outcomes that a contract of the door allows are identical: what is returned, and what every lent buffer then holds.
use Prim.Native.Nat.{ℕ}
use mathlib.Core.Path.{◌≡◌, sym, ap, ◌∙◌}
use mathlib.Core.List.{List, [], ◌∷◌}
use lib.Ieee.{Float}
use Rattle.resample.specs.Call.{shift_call, zoom_call, spline_filter_call, spline_filter1d_call}
use Rattle.one_voxel.specs.Call.{shift_voxel_call, zoom_voxel_call}
use Rattle.npy.specs.Call.{dims_call, read_call, size_call, write_call}
use Rattle.numbers.specs.Numbers.{request_of, plain_request_of}
use Rattle.vurelika.specs.Door.{Door, door_by, FilterDoor, filter_door_by, VoxelDoor, voxel_door_by, PointDoor, shift_pointing, zoom_pointing, point_door_by, NpyDoor, npy_door, zoom_length, work_count}

-- a contract says that the outcome is what a definition says: that allows one only
same : {A : Type 0} {x y means : A} → x ≡ means → y ≡ means → x ≡ y
same p q = p ∙ sym q

-- ---- component by component
pub record SameDoor (x y : Door) : Type 0 where
  pub status : x.status ≡ y.status
  pub output : x.output ≡ y.output
  pub coverage : x.coverage ≡ y.coverage
  pub work : x.work ≡ y.work
  pub counts : x.counts ≡ y.counts

same_door : {x y : Door} → x ≡ y → SameDoor x y
same_door e = record {
  status = ap (λ (d : Door). d.status) e;
  output = ap (λ (d : Door). d.output) e;
  coverage = ap (λ (d : Door). d.coverage) e;
  work = ap (λ (d : Door). d.work) e;
  counts = ap (λ (d : Door). d.counts) e;
}

pub record SameFilterDoor (x y : FilterDoor) : Type 0 where
  pub status : x.status ≡ y.status
  pub output : x.output ≡ y.output

same_filter_door : {x y : FilterDoor} → x ≡ y → SameFilterDoor x y
same_filter_door e = record { status = ap (λ (d : FilterDoor). d.status) e; output = ap (λ (d : FilterDoor). d.output) e }

pub record SameVoxelDoor (x y : VoxelDoor) : Type 0 where
  pub status : x.status ≡ y.status
  pub value : x.value ≡ y.value
  pub code : x.code ≡ y.code

same_voxel_door : {x y : VoxelDoor} → x ≡ y → SameVoxelDoor x y
same_voxel_door e = record { status = ap (λ (d : VoxelDoor). d.status) e; value = ap (λ (d : VoxelDoor). d.value) e; code = ap (λ (d : VoxelDoor). d.code) e }

pub record SamePointDoor (x y : PointDoor) : Type 0 where
  pub status : x.status ≡ y.status
  pub coordinate : x.coordinate ≡ y.coordinate
  pub neighbours : x.neighbours ≡ y.neighbours
  pub weights : x.weights ≡ y.weights

same_point_door : {x y : PointDoor} → x ≡ y → SamePointDoor x y
same_point_door e = record {
  status = ap (λ (d : PointDoor). d.status) e;
  coordinate = ap (λ (d : PointDoor). d.coordinate) e;
  neighbours = ap (λ (d : PointDoor). d.neighbours) e;
  weights = ap (λ (d : PointDoor). d.weights) e;
}

pub record SameNpyDoor (x y : NpyDoor) : Type 0 where
  pub status : x.status ≡ y.status
  pub buffer : x.buffer ≡ y.buffer

same_npy_door : {x y : NpyDoor} → x ≡ y → SameNpyDoor x y
same_npy_door e = record { status = ap (λ (d : NpyDoor). d.status) e; buffer = ap (λ (d : NpyDoor). d.buffer) e }

-- ---- the functions, one by one
module _ (d0 d1 d2 : ℕ) (f0 f1 f2 : Float) (order prefilter mode : ℕ) (fill : Float) (input output : List Float) (coverage : List ℕ) (work : List Float) (counts : List ℕ) {x y : Door} where
  pub same_shift :
      x ≡ door_by shift_call mode (request_of d0 d1 d2 f0 f1 f2 order prefilter mode fill) input output coverage work counts →
      y ≡ door_by shift_call mode (request_of d0 d1 d2 f0 f1 f2 order prefilter mode fill) input output coverage work counts →
      SameDoor x y
  same_shift p q = same_door (same p q)

  pub same_zoom :
      x ≡ door_by zoom_call mode (request_of d0 d1 d2 f0 f1 f2 order prefilter mode fill) input output coverage work counts →
      y ≡ door_by zoom_call mode (request_of d0 d1 d2 f0 f1 f2 order prefilter mode fill) input output coverage work counts →
      SameDoor x y
  same_zoom p q = same_door (same p q)

module _ (d0 d1 d2 : ℕ) (f0 f1 f2 : Float) (order prefilter mode : ℕ) (fill : Float) (input work : List Float) (i j k : ℕ) (value : List Float) (code : List ℕ) {x y : VoxelDoor} where
  pub same_shift_voxel :
      x ≡ voxel_door_by mode (shift_voxel_call (request_of d0 d1 d2 f0 f1 f2 order prefilter mode fill) input work (i ∷ j ∷ k ∷ []) value code) value code →
      y ≡ voxel_door_by mode (shift_voxel_call (request_of d0 d1 d2 f0 f1 f2 order prefilter mode fill) input work (i ∷ j ∷ k ∷ []) value code) value code →
      SameVoxelDoor x y
  same_shift_voxel p q = same_voxel_door (same p q)

  pub same_zoom_voxel :
      x ≡ voxel_door_by mode (zoom_voxel_call (request_of d0 d1 d2 f0 f1 f2 order prefilter mode fill) input work (i ∷ j ∷ k ∷ []) value code) value code →
      y ≡ voxel_door_by mode (zoom_voxel_call (request_of d0 d1 d2 f0 f1 f2 order prefilter mode fill) input work (i ∷ j ∷ k ∷ []) value code) value code →
      SameVoxelDoor x y
  same_zoom_voxel p q = same_voxel_door (same p q)

module _ (d0 d1 d2 order mode : ℕ) (fill : Float) (input output : List Float) {x y : FilterDoor} where
  pub same_spline_filter :
      x ≡ filter_door_by mode (spline_filter_call (plain_request_of d0 d1 d2 order 0 mode fill) input output) output →
      y ≡ filter_door_by mode (spline_filter_call (plain_request_of d0 d1 d2 order 0 mode fill) input output) output →
      SameFilterDoor x y
  same_spline_filter p q = same_filter_door (same p q)

  pub same_spline_filter1d :
      (axis : ℕ) → x ≡ filter_door_by mode (spline_filter1d_call (plain_request_of d0 d1 d2 order 0 mode fill) axis input output) output →
      y ≡ filter_door_by mode (spline_filter1d_call (plain_request_of d0 d1 d2 order 0 mode fill) axis input output) output →
      SameFilterDoor x y
  same_spline_filter1d axis p q = same_filter_door (same p q)

module _ (n : ℕ) (factor : Float) (order prefilter mode i : ℕ) (coordinate : List Float) (neighbours : List ℕ) (weights : List Float) {x y : PointDoor} where
  pub same_shift_point :
      x ≡ point_door_by (shift_pointing n factor order i) prefilter mode coordinate neighbours weights →
      y ≡ point_door_by (shift_pointing n factor order i) prefilter mode coordinate neighbours weights →
      SamePointDoor x y
  same_shift_point p q = same_point_door (same p q)

  pub same_zoom_point :
      x ≡ point_door_by (zoom_pointing n factor order i) prefilter mode coordinate neighbours weights →
      y ≡ point_door_by (zoom_pointing n factor order i) prefilter mode coordinate neighbours weights →
      SamePointDoor x y
  same_zoom_point p q = same_point_door (same p q)

pub same_zoom_length : (length : ℕ) (factor : Float) {n m : ℕ} → n ≡ zoom_length length factor → m ≡ zoom_length length factor → n ≡ m
same_zoom_length length factor p q = same p q

pub same_work_count : (d0 d1 d2 order prefilter mode : ℕ) {n m : ℕ} → n ≡ work_count d0 d1 d2 order prefilter mode → m ≡ work_count d0 d1 d2 order prefilter mode → n ≡ m
same_work_count d0 d1 d2 order prefilter mode p q = same p q

module _ {x y : NpyDoor} where
  pub same_npy_dims : (file dims : List ℕ) → x ≡ npy_door (dims_call file dims) → y ≡ npy_door (dims_call file dims) → SameNpyDoor x y
  same_npy_dims file dims p q = same_npy_door (same p q)

  pub same_npy_read : (file volume : List ℕ) → x ≡ npy_door (read_call file volume) → y ≡ npy_door (read_call file volume) → SameNpyDoor x y
  same_npy_read file volume p q = same_npy_door (same p q)

  pub same_npy_write : (d volume bytes : List ℕ) → x ≡ npy_door (write_call d volume bytes) → y ≡ npy_door (write_call d volume bytes) → SameNpyDoor x y
  same_npy_write d volume bytes p q = same_npy_door (same p q)

pub same_npy_size : (d : List ℕ) {n m : ℕ} → n ≡ size_call d → m ≡ size_call d → n ≡ m
same_npy_size d p q = same p q
