-- "It returns 0 for success or the refusal's number. Modes: 0 Constant, 1 Mirror, 2 Nearest, 3 Reflect, 4 Wrap, 5 Replicate; any other is answered 255 before all else: no request could be formed, so it is none of document 01's refusals. `fill` is read in mode 0 alone. `prefilter` is on where it is not 0. `counts` has exactly as many places as there are codes, else 7 in its place in the order: the door then hands the entry an empty output, whose length no request has, so that the entry itself gives what stands before 7, or 7, and writes nothing. Where `counts` has the right length it is written 0 on 255 and on every refusal."
use Rattle.std.specs.Prelude.{ℕ, Bool, not, ◌||◌, cond, List, [], ◌∷◌, eqb, length, Float}
use Rattle.exact.specs.Rounded.{num}
use Rattle.border.specs.declared.BorderMode.{BorderMode}
use Rattle.axis.specs.Length.{output_length}
use Rattle.request.specs.declared.Request.{Request}
use Rattle.request.specs.Sizes.{needed}
use Rattle.request.specs.Conditions.{bad_order, bad_length, bad_lengths, bad_zoom, zooms_slice, bad_output}
use Rattle.refusal.specs.Refusals.{number_in}
use Rattle.numbers.specs.Numbers.{is_mode, mode_of, plain_request_of, places, tally, cleared}
use Rattle.npy.specs.Call.{NpyCall}
use Rattle.resample.specs.Call.{Call, FilterCall, counts_in}
use Rattle.one_voxel.specs.Call.{VoxelCall}
use Rattle.one_voxel.specs.Points.{PointCall, shift_point_call, zoom_point_call}

-- what a mode that has no number is answered
abbrev pub unknown_mode : ℕ
unknown_mode = 255

-- ---- shift and zoom
-- what is returned, and what the lent buffers then hold
pub record Door : Type 0 where
  pub status : ℕ
  pub output : List Float
  pub coverage : List ℕ
  pub work : List Float
  pub counts : List ℕ

abbrev pub door_of : ℕ → List Float → List ℕ → List Float → List ℕ → Door
door_of status output coverage work counts = record { status = status; output = output; coverage = coverage; work = work; counts = counts }

-- what one of the two entries means: the request, input, output, coverage and work
abbrev pub Entry : Type 0
Entry = Request → List Float → List Float → List ℕ → List Float → Call

abbrev pub answered : Call → Door
answered call = door_of (number_in call.answer) call.output call.coverage call.work (tally (counts_in call.answer))

unfoldable pub door_by : Entry → ℕ → Request → List Float → List Float → List ℕ → List Float → List ℕ → Door
unfolding cleared
door_by entry mode r input output coverage work counts =
    cond (is_mode mode)
    (cond (eqb (length counts) places)
    (answered (entry r input output coverage work))
    (door_of (number_in (entry r input [] coverage work).answer) output coverage work counts))
    (door_of unknown_mode output coverage work (cleared counts))

-- ---- the two filters
pub record FilterDoor : Type 0 where
  pub status : ℕ
  pub output : List Float

abbrev pub filter_door_of : ℕ → List Float → FilterDoor
filter_door_of status output = record { status = status; output = output }

unfoldable pub filter_door_by : ℕ → FilterCall → List Float → FilterDoor
filter_door_by mode call output = cond (is_mode mode) (filter_door_of (number_in call.answer) call.output) (filter_door_of unknown_mode output)

-- ---- one voxel: `value` and `code` have exactly one place, else 7 in its place, which the entry gives
pub record VoxelDoor : Type 0 where
  pub status : ℕ
  pub value : List Float
  pub code : List ℕ

abbrev pub voxel_door_of : ℕ → List Float → List ℕ → VoxelDoor
voxel_door_of status value code = record { status = status; value = value; code = code }

unfoldable pub voxel_door_by : ℕ → VoxelCall → List Float → List ℕ → VoxelDoor
voxel_door_by mode call value code = cond (is_mode mode) (voxel_door_of (number_in call.answer) call.value call.code) (voxel_door_of unknown_mode value code)

-- ---- the record of one axis, of which no fill is asked: it holds no value
pub record PointDoor : Type 0 where
  pub status : ℕ
  pub coordinate : List Float
  pub neighbours : List ℕ
  pub weights : List Float

abbrev pub point_door_of : ℕ → List Float → List ℕ → List Float → PointDoor
point_door_of status coordinate neighbours weights = record { status = status; coordinate = coordinate; neighbours = neighbours; weights = weights }

-- what one of the two means: prefilter, mode, and the three lent buffers
abbrev pub Pointing : Type 0
Pointing = Bool → BorderMode → List Float → List ℕ → List Float → PointCall

-- of an axis of n voxels, at output index i
abbrev pub shift_pointing : ℕ → Float → ℕ → ℕ → Pointing
shift_pointing n shift order i prefilter mode = shift_point_call n shift order prefilter mode i

abbrev pub zoom_pointing : ℕ → Float → ℕ → ℕ → Pointing
zoom_pointing n factor order i prefilter mode = zoom_point_call n factor order prefilter mode i

unfoldable pub point_door_by : Pointing → ℕ → ℕ → List Float → List ℕ → List Float → PointDoor
unfolding mode_of
point_door_by entry prefilter mode coordinate neighbours weights =
    let call = entry (not (eqb prefilter 0)) (mode_of mode (num 0)) coordinate neighbours weights in
    cond (is_mode mode) (point_door_of (number_in call.answer) call.coordinate call.at call.weight) (point_door_of unknown_mode coordinate neighbours weights)

-- ---- the functions of .npy: the buffer that is written is dims, volume or bytes
pub record NpyDoor : Type 0 where
  pub status : ℕ
  pub buffer : List ℕ

abbrev pub npy_door_of : ℕ → List ℕ → NpyDoor
npy_door_of status buffer = record { status = status; buffer = buffer }

abbrev pub npy_door : NpyCall → NpyDoor
npy_door call = npy_door_of (number_in call.answer) call.buffer

-- ---- how much a caller lends
-- "0 where refusals 3 to 5 would answer", 12 among them since #106
unfoldable pub zoom_length : ℕ → Float → ℕ
zoom_length length factor =
    cond (bad_length length || bad_zoom factor) 0
    (let n = output_length length factor in cond (zooms_slice length n || bad_output length n) 0 n)

-- 0 too where the mode, the order or a length is refused: no call is then answered, whatever the work
unfoldable pub work_count : ℕ → ℕ → ℕ → ℕ → ℕ → ℕ → ℕ
work_count d0 d1 d2 order prefilter mode =
    cond (not (is_mode mode) || bad_order order || bad_lengths (d0 ∷ d1 ∷ d2 ∷ [])) 0
    (needed (plain_request_of d0 d1 d2 order prefilter mode (num 0)))
