-- The float that a word stands for: the one of its bits, and 0 where these are a NaN's.
use Rattle.std.specs.Prelude.{ℕ, Bool, not, ◌&&◌, nat_eq, is_nan, from_bits, to_bits, if◌then◌else◌}
use Rattle.std.specs.Float.Ieee.{Float, binary64}
use Rattle.std.specs.Float.{float_zero}

abbrev pub float_of : ℕ → Float
float_of word = if is_nan (from_bits binary64 word) then float_zero else from_bits binary64 word

-- Whether a float has these bits. A NaN has none that count.
abbrev pub has_bits : Float → ℕ → Bool
has_bits x bits = not (is_nan x) && nat_eq (to_bits binary64 x) bits
