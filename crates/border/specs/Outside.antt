-- Departure 2 at every f64 coordinate: where Reflect's fold gives -1 or less, the mark for outside.
use Rattle.std.specs.Prelude.{ℕ, ◌≡◌, ◌⊎◌, true, ℤ, negsuc, Float}
use Rattle.std.specs.Float.{fin}
use Rattle.std.specs.Float.Ieee.{lt, le}
use Rattle.exact.specs.Rounded.{num}
use Rattle.exact.specs.Whole.{Is}
use Rattle.border.specs.Landing.{FarEven}

-- idx is -2kL with k at least 2
pub record FarMultiple (L : ℕ) (idx : Float) : Type 0 where
  pub n : ℤ
  pub is : Is idx n
  pub even : FarEven L n

-- idx lies from -2^-54 up to, not including, 0
pub record JustBelow (idx : Float) : Type 0 where
  pub least : le (fin true 1 (negsuc 53)) idx ≡ true
  pub below : lt idx (num 0) ≡ true

abbrev pub Lost : ℕ → Float → Type 0
Lost L idx = FarMultiple L idx ⊎ JustBelow idx
