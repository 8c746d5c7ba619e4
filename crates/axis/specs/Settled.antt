-- #104: "the new one is proved equal to the manual's rule at whole coordinates, with no exceptions, by the proof that serves the other modes". What is settled at a whole coordinate.
use Rattle.std.specs.Prelude.{ℕ, ◌+◌, ℤ, pos, negsuc, Float}
use Rattle.exact.specs.Whole.{Is}
use Rattle.border.specs.declared.BorderMode.{BorderMode}
use Rattle.border.specs.Manual.{Stands}
use Rattle.border.specs.Landing.{Marked}
use Rattle.axis.specs.declared.coordinate.When.{When}
use Rattle.axis.specs.declared.coordinate.When.TheVariants.{Never, WithPad, BeforePad}
use Rattle.axis.specs.Coordinate.{folds}

abbrev Ever : When → Type 0
Ever Never = ⊥
Ever WithPad = Unit
Ever BeforePad = Unit

-- every mode but Nearest, which lets a coordinate stand
abbrev pub Folds : BorderMode → Type 0
Folds mode = Ever (folds mode)

-- at coordinate n of an axis of `length` voxels, which stand from the pad on: a voxel that the manual lets stand there, or -1, the mark for outside, where `Marked` says so
pub record Settles (mode : BorderMode) (length pad : ℕ) (n : ℤ) (to : Float) : Type 0 where
  pub marked : Marked mode length n → Is to (negsuc 0)
  pub follows : (Marked mode length n → ⊥) → (i : ℕ) × Stands mode length n i × Is to (pos (pad + i))
