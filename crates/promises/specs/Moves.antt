-- Demand 3: "In Constant, order 0 or 1, whole shifts below 2^20 move voxels exactly (as numbers) and the opposite shift brings them back." What it says of the volumes before and after.
use Rattle.std.specs.Prelude.{ℕ, ◌^◌, ◌<◌, ◌≡◌, ◌⊎◌, List, T, ℤ, pos, nat_abs, ◌+ℤ◌, ◌-ℤ◌, length, get_or, Float}
use Rattle.std.specs.Int.Signed.{lt_z, le_z}
use Rattle.std.specs.Float.{nan, binary64}
use Rattle.std.specs.Float.Ieee.{fits}
use Rattle.exact.specs.Whole.{Is}
use Rattle.exact.specs.Same.{Same}
use Rattle.request.specs.declared.Request.{Request}
use Rattle.promises.specs.Place.{Inside, voxel, code}

-- a buffer of f64 holds only values of binary64: any other number would be rounded on its way through a sum
abbrev pub F64s : List Float → Type 0
F64s l = (m : ℕ) → m < length l → T (fits binary64 (get_or l m nan))

-- the shifts of a request are whole numbers below 2^20 in size: s i on axis i
abbrev pub Whole : Request → (ℕ → ℤ) → Type 0
Whole r s = (i : ℕ) → i < 3 → Is (get_or r.factors i nan) (s i) × (nat_abs (s i) < 2 ^ 20)

-- below 0 or at least the length
abbrev pub Outside : ℕ → ℤ → Type 0
Outside length z = T (lt_z z (pos 0)) ⊎ T (le_z (pos length) z)

-- "each output voxel equals, as a number, the input voxel at its index minus the shift, or the fill where that index lies outside on some axis; code 0 where it lies inside, 1 where not"
pub record Moved (d : List ℕ) (s : ℕ → ℤ) (fill : Float) (before after : List Float) (codes : List ℕ) : Type 0 where
  pub inside : (i j k x y z : ℕ) → Inside d i j k → Inside d x y z → pos i -ℤ s 0 ≡ pos x → pos j -ℤ s 1 ≡ pos y → pos k -ℤ s 2 ≡ pos z → Same (voxel d after i j k) (voxel d before x y z) × (code d codes i j k ≡ 0)
  pub outside : (i j k : ℕ) → Inside d i j k → Outside (get_or d 0 0) (pos i -ℤ s 0) ⊎ Outside (get_or d 1 0) (pos j -ℤ s 1) ⊎ Outside (get_or d 2 0) (pos k -ℤ s 2) → (voxel d after i j k ≡ fill) × (code d codes i j k ≡ 1)

-- after the way there and back: "every voxel that had stayed inside is given back, as a number, with the fill in all other places"
pub record Returned (d : List ℕ) (s : ℕ → ℤ) (fill : Float) (before after : List Float) : Type 0 where
  pub stayed : (i j k x y z : ℕ) → Inside d i j k → Inside d x y z → pos i +ℤ s 0 ≡ pos x → pos j +ℤ s 1 ≡ pos y → pos k +ℤ s 2 ≡ pos z → Same (voxel d after i j k) (voxel d before i j k)
  pub gone : (i j k : ℕ) → Inside d i j k → Outside (get_or d 0 0) (pos i +ℤ s 0) ⊎ Outside (get_or d 1 0) (pos j +ℤ s 1) ⊎ Outside (get_or d 2 0) (pos k +ℤ s 2) → voxel d after i j k ≡ fill
