-- What the door can answer, and what it then leaves: theorems about its definitions, for shift and zoom alike, for the two filters, for one voxel, for the record of one axis.
use Prim.Native.Nat.{ℕ, ◌≤◌}
use mathlib.Core.Path.{◌≡◌, refl, sym, ap, ◌∙◌}
use mathlib.Core.Bool.{Bool, true, false, not, ◌||◌, cond}
use mathlib.Core.List.{List, []}
use mathlib.Core.Logic.{◌⊎◌, inl, inr}
use lib.Dec.{eqb, leb, lit≤}
use lib.ListN.{length}
use lib.Ieee.{Float}
use borrow.Author.Tests.{ne_eqb, leb-true}
use Rattle.exact.specs.Rounded.{num}
use Rattle.border.specs.declared.BorderMode.{BorderMode}
use Rattle.border.specs.declared.BorderMode.TheVariants.{Constant}
use Rattle.axis.specs.declared.coordinate.Axis.{Axis}
use Rattle.request.specs.declared.Axes.{Axes}
use Rattle.request.specs.declared.Request.{Request}
use Rattle.refusal.specs.declared.Asked.TheVariants.{Volume}
use Rattle.refusal.specs.declared.Refusal.{Refusal}
use Rattle.refusal.specs.declared.Refusal.TheVariants.{NotNpy, Order, AxisNumber, Length, Factor, Slice, OutputLength, Count, Buffer, Value, Beside, Index}
use Rattle.refusal.specs.Refusals.{Check, number_of, first, shift_checks, zoom_checks, shift_voxel_checks, zoom_voxel_checks, shift_point_checks, zoom_point_checks, spline_filter_checks, spline_filter1d_checks, number_in}
use Rattle.refusal.proofs.Firsts.{found_among}
use Rattle.request.specs.Sizes.{shift_axes, zoom_axes}
use Rattle.coverage.specs.Coverage.{none}
use Rattle.resample.specs.Call.{Call, FilterCall, call_of, call_by, shift_call, zoom_call, filter_call_by, spline_filter_call, spline_filter1d_call}
use Rattle.one_voxel.specs.declared.Voxel.{Voxel}
use Rattle.one_voxel.specs.Call.{VoxelCall, voxel_call_by, shift_voxel_call, zoom_voxel_call}
use Rattle.one_voxel.specs.Points.{point_call_by, shift_point_call, zoom_point_call}
use Rattle.one_voxel.proofs.Points.{shift_any_fill, zoom_any_fill}
use Rattle.npy.specs.File.{dims_of, voxels_of, written}
use Rattle.npy.specs.Call.{npy_call_by, dims_checks, read_checks, write_checks, dims_call, read_call, write_call}
use Rattle.numbers.specs.Numbers.{is_mode, mode_of, places, tally, cleared}
use Rattle.vurelika.specs.Door.{unknown_mode, Entry, Door, door_of, answered, door_by, filter_door_of, filter_door_by, VoxelDoor, voxel_door_of, voxel_door_by, PointDoor, Pointing, shift_pointing, zoom_pointing, point_door_of, point_door_by, npy_door}
use Rattle.vurelika.proofs.Empty.{in_place, early, in_place-early, EmptyRefused, empty_refused_shift, empty_refused_zoom}
use Rattle.vurelika.proofs.Doors.{unknown, filter_unknown}
use Rattle.std.specs.Prelude.{Result, Ok, Err, ⊤}
use Rattle.coverage.specs.declared.counts.Counts.{Counts}

-- ---- the numbers
-- a refusal's number is not 0
pub numbered : (why : Refusal) → 1 ≤ number_of why
numbered NotNpy = lit≤ tt
numbered Order = lit≤ tt
numbered AxisNumber = lit≤ tt
numbered Length = lit≤ tt
numbered Factor = lit≤ tt
numbered Slice = lit≤ tt
numbered OutputLength = lit≤ tt
numbered Count = lit≤ tt
numbered Buffer = lit≤ tt
numbered Value = lit≤ tt
numbered Beside = lit≤ tt
numbered Index = lit≤ tt

-- one of document 01's nine
abbrev nine : Refusal → Bool
nine why = leb (number_of why) 9

abbrev Nine : Result ⊤ Refusal → Type 0
Nine v = (why : Refusal) → v ≡ Err why → nine why ≡ true

-- ---- shift and zoom
-- one of these, or 12
abbrev up_to9_or12 : ℕ → Bool
up_to9_or12 n = leb n 9 || eqb n 12

abbrev ten : Refusal → Bool
ten why = up_to9_or12 (number_of why)

-- an entry answers 0, or it refuses by one of the ten and leaves what it was lent
abbrev pub Leaves : Call → List Float → List ℕ → List Float → Type 0
Leaves call output coverage work = (number_in call.answer ≡ 0) ⊎ ((why : Refusal) × (ten why ≡ true) × (call ≡ call_of (Err why) output coverage work))

call_leaves : (v : Result ⊤ Refusal) → ((why : Refusal) → v ≡ Err why → ten why ≡ true) → (r : Request) (a : Axes) (input output : List Float) (coverage : List ℕ) (work : List Float) → Leaves (call_by v r a input output coverage work) output coverage work
call_leaves (Ok tt) h r a input output coverage work = inl refl
call_leaves (Err why) h r a input output coverage work = inr (why, h why refl, refl)

leaves_range : {call : Call} {output : List Float} {coverage : List ℕ} {work : List Float} → Leaves call output coverage work → up_to9_or12 (number_in call.answer) ≡ true
leaves_range (inl done) = ap up_to9_or12 done
leaves_range (inr (why, h, left)) = ap (λ (q : Call). up_to9_or12 (number_in q.answer)) left ∙ h

-- what follows for the door holds of any entry that does so, and that refuses an empty output
pub record Sound (entry : Entry) : Type 0 where
  pub empty : EmptyRefused entry
  pub leaves : (r : Request) (input output : List Float) (coverage : List ℕ) (work : List Float) → Leaves (entry r input output coverage work) output coverage work

pub shift_sound : Sound shift_call
unfolding shift_call
shift_sound = record { empty = empty_refused_shift; leaves = λ r input output coverage work. let l = shift_checks Volume r input (length output) (length coverage) (length work) in call_leaves (first l) (found_among ten l refl) r (shift_axes r) input output coverage work }

pub zoom_sound : Sound zoom_call
unfolding zoom_call
zoom_sound = record { empty = empty_refused_zoom; leaves = λ r input output coverage work. let l = zoom_checks Volume r input (length output) (length coverage) (length work) in call_leaves (first l) (found_among ten l refl) r (zoom_axes r) input output coverage work }

-- one of the refusals that stand before 7, or 7, in its place before what `answer` would be, and every buffer as it was lent
pub record CountsRefused (door : Door) (answer : Result Counts Refusal) (output : List Float) (coverage : List ℕ) (work : List Float) (counts : List ℕ) : Type 0 where
  pub number : ℕ
  pub least : 1 ≤ number
  pub most : early number ≡ true
  pub place : number ≡ in_place (number_in answer)
  pub left : door ≡ door_of number output coverage work counts

module _ {entry : Entry} (sound : Sound entry) (mode : ℕ) (r : Request) (input output : List Float) (coverage : List ℕ) (work : List Float) (counts : List ℕ) where
  abbrev door : Door
  door = door_by entry mode r input output coverage work counts

  -- the door by its two tests
  abbrev cases : Bool → Bool → Door
  cases known right =
      cond known
      (cond right (answered (entry r input output coverage work)) (door_of (number_in (entry r input [] coverage work).answer) output coverage work counts))
      (door_of unknown_mode output coverage work (cond right (tally none) counts))

  -- a mode without a number is 255, before all else; of the buffers `counts` alone is written, with zeros
  pub unknown-mode : is_mode mode ≡ false → door ≡ door_of unknown_mode output coverage work (cleared counts)
  unknown-mode e = sym (unknown entry mode r input output coverage work counts e refl)

  -- `counts` of a wrong length is 7, in its place in the order
  pub counts_wrong_refused : is_mode mode ≡ true → (length counts ≡ places → ⊥) → CountsRefused door (entry r input output coverage work).answer output coverage work counts
  unfolding door_by
  counts_wrong_refused known wrong =
      let e = sound.empty r input output coverage work in
      record {
        number = number_of e.why;
        least = numbered e.why;
        most = ap early e.place ∙ in_place-early (number_in (entry r input output coverage work).answer);
        place = e.place;
        left = simp (known, ne_eqb (length counts) places wrong, e.left);
      }

  -- any answer but 0 leaves every buffer but `counts`, which holds zeros where it has its places
  pub refusal_leaves : (door.status ≡ 0 → ⊥) → door ≡ door_of door.status output coverage work (cleared counts)
  unfolding door_by cleared
  refusal_leaves = go (is_mode mode) (eqb (length counts) places)
    where
      answers_left : (call : Call) → Leaves call output coverage work → ((answered call).status ≡ 0 → ⊥) → answered call ≡ door_of (answered call).status output coverage work (tally none)
      answers_left call (inl done) refused = absurd (refused done)
      answers_left call (inr w) refused = ap answered w.2 ∙ ap (λ (q : Call). door_of (number_in q.answer) output coverage work (tally none)) (sym w.2)

      go : (known right : Bool) → ((cases known right).status ≡ 0 → ⊥) → cases known right ≡ door_of (cases known right).status output coverage work (cond right (tally none) counts)
      go true true refused = answers_left (entry r input output coverage work) (sound.leaves r input output coverage work) refused
      go true false refused = refl
      go false right refused = refl

  -- no answer but 255 lies outside 0 to 9 and 12
  pub status_range : (door.status ≡ unknown_mode) ⊎ (up_to9_or12 door.status ≡ true)
  unfolding door_by cleared
  status_range = go (is_mode mode) (eqb (length counts) places)
    where
      go : (known right : Bool) → ((cases known right).status ≡ unknown_mode) ⊎ (up_to9_or12 (cases known right).status ≡ true)
      go true true = inr (leaves_range (sound.leaves r input output coverage work))
      go true false = inr (leaves_range (sound.leaves r input [] coverage work))
      go false right = inl refl

-- ---- the two filters
module _ (mode : ℕ) (r : Request) (input output : List Float) where
  filter_range : (v : Result ⊤ Refusal) (made : List Float) → Nine v → let door = filter_door_by mode (filter_call_by v made output) output in (door.status ≡ unknown_mode) ⊎ (door.status ≤ 9)
  unfolding filter_door_by
  filter_range v made h = go (is_mode mode) v h
    where
      go : (known : Bool) (v : Result ⊤ Refusal) → Nine v → let call = filter_call_by v made output in let door = cond known (filter_door_of (number_in call.answer) call.output) (filter_door_of unknown_mode output) in (door.status ≡ unknown_mode) ⊎ (door.status ≤ 9)
      go true (Ok tt) h = inr (lit≤ tt)
      go true (Err why) h = inr (leb-true (number_of why) 9 (h why refl))
      go false v h = inl refl

  pub filter_status_range : let door = filter_door_by mode (spline_filter_call r input output) output in (door.status ≡ unknown_mode) ⊎ (door.status ≤ 9)
  unfolding spline_filter_call
  filter_status_range = let l = spline_filter_checks r input (length output) in filter_range (first l) _ (found_among nine l refl)

  pub filter1d_status_range : (axis : ℕ) → let door = filter_door_by mode (spline_filter1d_call r axis input output) output in (door.status ≡ unknown_mode) ⊎ (door.status ≤ 9)
  unfolding spline_filter1d_call
  filter1d_status_range axis = let l = spline_filter1d_checks r axis input (length output) in filter_range (first l) _ (found_among nine l refl)

pub filter_unknown_mode : (mode : ℕ) (call : FilterCall) (output : List Float) → is_mode mode ≡ false → filter_door_by mode call output ≡ filter_door_of unknown_mode output
filter_unknown_mode mode call output e = sym (filter_unknown mode call output e)

-- ---- one voxel
-- these ten, or 11
abbrev up_to9_or11_or12 : ℕ → Bool
up_to9_or11_or12 n = up_to9_or12 n || eqb n 11

abbrev eleven : Refusal → Bool
eleven why = up_to9_or11_or12 (number_of why)

module _ (mode : ℕ) (v : Result ⊤ Refusal) (made : Voxel) (value : List Float) (code : List ℕ) where
  abbrev voxel_door : VoxelDoor
  voxel_door = voxel_door_by mode (voxel_call_by v made value code) value code

  -- any answer but 0 leaves both places
  voxel_leaves : (voxel_door.status ≡ 0 → ⊥) → voxel_door ≡ voxel_door_of voxel_door.status value code
  unfolding voxel_door_by
  voxel_leaves = go (is_mode mode) v
    where
      go : (known : Bool) (v : Result ⊤ Refusal) → let call = voxel_call_by v made value code in let door = cond known (voxel_door_of (number_in call.answer) call.value call.code) (voxel_door_of unknown_mode value code) in (door.status ≡ 0 → ⊥) → door ≡ voxel_door_of door.status value code
      go true (Ok tt) refused = absurd (refused refl)
      go true (Err why) refused = refl
      go false v refused = refl

  -- no answer but 255 lies outside 0 to 9, 11 and 12
  voxel_range : ((why : Refusal) → v ≡ Err why → eleven why ≡ true) → (voxel_door.status ≡ unknown_mode) ⊎ (up_to9_or11_or12 voxel_door.status ≡ true)
  unfolding voxel_door_by
  voxel_range h = go (is_mode mode) v h
    where
      go : (known : Bool) (v : Result ⊤ Refusal) → ((why : Refusal) → v ≡ Err why → eleven why ≡ true) → let call = voxel_call_by v made value code in let door = cond known (voxel_door_of (number_in call.answer) call.value call.code) (voxel_door_of unknown_mode value code) in (door.status ≡ unknown_mode) ⊎ (up_to9_or11_or12 door.status ≡ true)
      go true (Ok tt) h = inr refl
      go true (Err why) h = inr (h why refl)
      go false v h = inl refl

-- of both entries
pub record VoxelSound (entry : Request → List Float → List Float → List ℕ → List Float → List ℕ → VoxelCall) : Type 0 where
  pub leaves : (mode : ℕ) (r : Request) (input work : List Float) (at : List ℕ) (value : List Float) (code : List ℕ) → let door = voxel_door_by mode (entry r input work at value code) value code in (door.status ≡ 0 → ⊥) → door ≡ voxel_door_of door.status value code
  pub range : (mode : ℕ) (r : Request) (input work : List Float) (at : List ℕ) (value : List Float) (code : List ℕ) → let door = voxel_door_by mode (entry r input work at value code) value code in (door.status ≡ unknown_mode) ⊎ (up_to9_or11_or12 door.status ≡ true)

pub shift_voxel_sound : VoxelSound shift_voxel_call
unfolding shift_voxel_call
shift_voxel_sound = record {
  leaves = λ mode r input work at value code. voxel_leaves mode (first (shift_voxel_checks r input (length value) (length code) (length work) at)) _ value code;
  range = λ mode r input work at value code. let l = shift_voxel_checks r input (length value) (length code) (length work) at in voxel_range mode (first l) _ value code (found_among eleven l refl);
}

pub zoom_voxel_sound : VoxelSound zoom_voxel_call
unfolding zoom_voxel_call
zoom_voxel_sound = record {
  leaves = λ mode r input work at value code. voxel_leaves mode (first (zoom_voxel_checks r input (length value) (length code) (length work) at)) _ value code;
  range = λ mode r input work at value code. let l = zoom_voxel_checks r input (length value) (length code) (length work) at in voxel_range mode (first l) _ value code (found_among eleven l refl);
}

-- ---- the record of one axis
module _ (v : Result ⊤ Refusal) (order prefilter mode : ℕ) (a : Axis) (i : ℕ) (coordinate : List Float) (neighbours : List ℕ) (weights : List Float) where
  -- the door of a call that the verdict v decides
  abbrev point_door : PointDoor
  point_door = point_door_by (λ p m. point_call_by v order m a i) prefilter mode coordinate neighbours weights

  abbrev point_cases : Bool → Result ⊤ Refusal → PointDoor
  point_cases known v =
      let call = point_call_by v order (mode_of mode (num 0)) a i coordinate neighbours weights in
      cond known (point_door_of (number_in call.answer) call.coordinate call.at call.weight) (point_door_of unknown_mode coordinate neighbours weights)

  point_leaves : (point_door.status ≡ 0 → ⊥) → point_door ≡ point_door_of point_door.status coordinate neighbours weights
  unfolding point_door_by
  point_leaves = go (is_mode mode) v
    where
      go : (known : Bool) (v : Result ⊤ Refusal) → ((point_cases known v).status ≡ 0 → ⊥) → point_cases known v ≡ point_door_of (point_cases known v).status coordinate neighbours weights
      go true (Ok tt) refused = absurd (refused refl)
      go true (Err why) refused = refl
      go false v refused = refl

  point_range : ((why : Refusal) → v ≡ Err why → eleven why ≡ true) → (point_door.status ≡ unknown_mode) ⊎ (up_to9_or11_or12 point_door.status ≡ true)
  unfolding point_door_by
  point_range h = go (is_mode mode) v h
    where
      go : (known : Bool) (v : Result ⊤ Refusal) → ((why : Refusal) → v ≡ Err why → eleven why ≡ true) → ((point_cases known v).status ≡ unknown_mode) ⊎ (up_to9_or11_or12 (point_cases known v).status ≡ true)
      go true (Ok tt) h = inr refl
      go true (Err why) h = inr (h why refl)
      go false v h = inl refl

-- a mode with any fill is as good as the one with 0 that the door asks for
by_number : {A : Type 0} (f : BorderMode → A) (mode : ℕ) (fill : Float) → f (Constant (num 0)) ≡ f (Constant fill) → f (mode_of mode (num 0)) ≡ f (mode_of mode fill)
unfolding mode_of
by_number f mode fill h = go (eqb mode 0) _
  where
    go : (constant : Bool) (other : BorderMode) → f (cond constant (Constant (num 0)) other) ≡ f (cond constant (Constant fill) other)
    go true other = h
    go false other = refl

-- of both entries: any answer but 0 leaves the three buffers, no answer but 255 lies outside 0 to 9, 11 and 12, and no fill would alter anything
pub record PointSound (entry : Pointing) : Type 0 where
  pub leaves : (prefilter mode : ℕ) (coordinate : List Float) (neighbours : List ℕ) (weights : List Float) → let door = point_door_by entry prefilter mode coordinate neighbours weights in (door.status ≡ 0 → ⊥) → door ≡ point_door_of door.status coordinate neighbours weights
  pub range : (prefilter mode : ℕ) (coordinate : List Float) (neighbours : List ℕ) (weights : List Float) → let door = point_door_by entry prefilter mode coordinate neighbours weights in (door.status ≡ unknown_mode) ⊎ (up_to9_or11_or12 door.status ≡ true)
  pub any_fill : (prefilter : Bool) (mode : ℕ) (fill : Float) (coordinate : List Float) (neighbours : List ℕ) (weights : List Float) → entry prefilter (mode_of mode (num 0)) coordinate neighbours weights ≡ entry prefilter (mode_of mode fill) coordinate neighbours weights

module _ (n : ℕ) (factor : Float) (order i : ℕ) where
  abbrev shift_tests : ℕ → ℕ → List Float → List ℕ → List Float → List Check
  shift_tests prefilter mode coordinate neighbours weights = shift_point_checks n factor order (not (eqb prefilter 0)) (mode_of mode (num 0)) i (length coordinate) (length neighbours) (length weights)

  abbrev zoom_tests : ℕ → ℕ → List Float → List ℕ → List Float → List Check
  zoom_tests prefilter mode coordinate neighbours weights = zoom_point_checks n factor order (not (eqb prefilter 0)) (mode_of mode (num 0)) i (length coordinate) (length neighbours) (length weights)

  pub shift_point_sound : PointSound (shift_pointing n factor order i)
  unfolding shift_point_call point_door_by
  shift_point_sound = record {
    leaves = λ prefilter mode coordinate neighbours weights. point_leaves (first (shift_tests prefilter mode coordinate neighbours weights)) order prefilter mode _ i coordinate neighbours weights;
    range = λ prefilter mode coordinate neighbours weights. let l = shift_tests prefilter mode coordinate neighbours weights in point_range (first l) order prefilter mode _ i coordinate neighbours weights (found_among eleven l refl);
    any_fill = λ prefilter mode fill coordinate neighbours weights. by_number (λ (m : BorderMode). shift_point_call n factor order prefilter m i coordinate neighbours weights) mode fill (shift_any_fill order (num 0) fill i coordinate neighbours weights n factor prefilter);
  }

  pub zoom_point_sound : PointSound (zoom_pointing n factor order i)
  unfolding zoom_point_call point_door_by
  zoom_point_sound = record {
    leaves = λ prefilter mode coordinate neighbours weights. point_leaves (first (zoom_tests prefilter mode coordinate neighbours weights)) order prefilter mode _ i coordinate neighbours weights;
    range = λ prefilter mode coordinate neighbours weights. let l = zoom_tests prefilter mode coordinate neighbours weights in point_range (first l) order prefilter mode _ i coordinate neighbours weights (found_among eleven l refl);
    any_fill = λ prefilter mode fill coordinate neighbours weights. by_number (λ (m : BorderMode). zoom_point_call n factor order prefilter m i coordinate neighbours weights) mode fill (zoom_any_fill order (num 0) fill i coordinate neighbours weights n factor prefilter);
  }

-- ---- the functions of .npy
npy_leaves : (v : Result ⊤ Refusal) (made held : List ℕ) → let door = npy_door (npy_call_by v made held) in (door.status ≡ 0 → ⊥) → door.buffer ≡ held
npy_leaves (Ok tt) made held refused = absurd (refused refl)
npy_leaves (Err why) made held refused = refl

-- any answer but 0 leaves the lent buffer
pub npy_dims_leaves : (file dims : List ℕ) → ((npy_door (dims_call file dims)).status ≡ 0 → ⊥) → (npy_door (dims_call file dims)).buffer ≡ dims
unfolding dims_call
npy_dims_leaves file dims = npy_leaves (first (dims_checks file (length dims))) (dims_of file) dims

pub npy_read_leaves : (file volume : List ℕ) → ((npy_door (read_call file volume)).status ≡ 0 → ⊥) → (npy_door (read_call file volume)).buffer ≡ volume
unfolding read_call
npy_read_leaves file volume = npy_leaves (first (read_checks file (length volume))) (voxels_of file) volume

pub npy_write_leaves : (d volume bytes : List ℕ) → ((npy_door (write_call d volume bytes)).status ≡ 0 → ⊥) → (npy_door (write_call d volume bytes)).buffer ≡ bytes
unfolding write_call
npy_write_leaves d volume bytes = npy_leaves (first (write_checks d (length volume) (length bytes))) (written d volume) bytes
