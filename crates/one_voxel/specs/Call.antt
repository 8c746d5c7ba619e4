-- #105: "an engine that takes one output index and works out its coordinates, weights and neighbours afresh, using no table." Value and code are those that document 01 and #103 define, so they are said by the definitions of the volume: `voxel_at` and `own_code`.
use Rattle.std.specs.Prelude.{ℕ, cond, List, [], ◌∷◌, length, get_or, take, Float}
use Rattle.request.specs.declared.Axes.{Axes}
use Rattle.request.specs.declared.Request.{Request}
use Rattle.request.specs.Sizes.{filters, needed, shift_axes, zoom_axes}
use Rattle.refusal.specs.Refusals.{first, shift_voxel_checks, zoom_voxel_checks}
use Rattle.coverage.specs.Coverage.{own_code}
use Rattle.voxels.specs.Voxel.{voxel_at}
use Rattle.one_voxel.specs.declared.Voxel.{Voxel}
use Rattle.std.specs.Prelude.{Result, Ok, Err, ⊤}
use Rattle.refusal.specs.declared.Refusal.{Refusal}

-- "Where prefilter applies it reads the coefficients lent in work": its first places, as many as are needed, whatever numbers stand there
unfoldable pub lent_source : Request → List Float → List Float → List Float
lent_source r input work = cond (filters r) (take (needed r) work) input

-- the voxel at an index for each axis
unfoldable pub voxel_of : Request → Axes → List Float → List Float → List ℕ → Voxel
unfolding lent_source voxel_at own_code
voxel_of r a input work at =
    let x = get_or at 0 0 in
    let y = get_or at 1 0 in
    let z = get_or at 2 0 in
    record { value = voxel_at r.order r.mode a.x a.y a.z (lent_source r input work) x y z; code = own_code r.order r.mode a.x a.y a.z x y z }

-- ---- a call: the verdict, and what the one place lent for the value and the one for the code then hold
pub record VoxelCall : Type 0 where
  pub answer : Result ⊤ Refusal
  pub value : List Float
  pub code : List ℕ

abbrev pub voxel_call_of : Result ⊤ Refusal → List Float → List ℕ → VoxelCall
voxel_call_of answer value code = record { answer = answer; value = value; code = code }

abbrev pub voxel_call_by : Result ⊤ Refusal → Voxel → List Float → List ℕ → VoxelCall
voxel_call_by (Ok tt) v value code = voxel_call_of (Ok tt) (v.value ∷ []) (v.code ∷ [])
voxel_call_by (Err why) v value code = voxel_call_of (Err why) value code

unfoldable pub shift_voxel_call : Request → List Float → List Float → List ℕ → List Float → List ℕ → VoxelCall
unfolding voxel_of
shift_voxel_call r input work at value code = voxel_call_by (first (shift_voxel_checks r input (length value) (length code) (length work) at)) (voxel_of r (shift_axes r) input work at) value code

unfoldable pub zoom_voxel_call : Request → List Float → List Float → List ℕ → List Float → List ℕ → VoxelCall
unfolding voxel_of
zoom_voxel_call r input work at value code = voxel_call_by (first (zoom_voxel_checks r input (length value) (length code) (length work) at)) (voxel_of r (zoom_axes r) input work at) value code
