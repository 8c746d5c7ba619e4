-- What `nearest_whole` asks.
use Rattle.std.specs.Prelude.{false, not, T, pos, Float}
use Rattle.std.specs.Float.{fin}
use Rattle.std.specs.Float.Ieee.{lt}

-- x is not below 0: it may be -0, and it may be a NaN
abbrev pub NotBelowZero : Float → Type 0
NotBelowZero x = T (not (lt x (fin false 0 (pos 0))))
