-- "Zoom's output length is length times factor (one multiplication, rounded once), then to the nearest whole, ties to even."
use Rattle.std.specs.Prelude.{ℕ, Float}
use Rattle.std.specs.Float.Ieee.{to_unsigned}
use Rattle.exact.specs.Rounded.{◌⊗◌, num}
use Rattle.exact.specs.Round.{round_ties_even_f}

unfoldable pub output_length : ℕ → Float → ℕ
output_length length factor = to_unsigned 64 (round_ties_even_f (num length ⊗ factor))
