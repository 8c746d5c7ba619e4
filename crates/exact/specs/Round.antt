-- Rust's `f64::round_ties_even`. Definitions only.
use Rattle.std.specs.Prelude.{◌*◌, ◌/◌, ◌%◌, cond, ◌==◌, Float}
use Prim.Native.Nat.{compare}
use Rattle.std.specs.Float.{nan, inf, fin, binary64}
use Rattle.std.specs.Float.Ieee.{up, down, nearest, round}

-- the nearest whole number, of two equally near the even one; a zero keeps the sign of x
unfoldable pub round_ties_even_f : Float → Float
round_ties_even_f nan = nan
round_ties_even_f (inf s) = inf s
round_ties_even_f (fin s m e) =
    let n = m * up e in
    let d = down e in
    cond (n % d == 0) (fin s m e) (round binary64 s (nearest (n / d) (compare (n % d * 2) d)) 1)
