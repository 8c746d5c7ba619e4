-- Whether a test holds of some number below a bound.
use Rattle.std.specs.Prelude.{ℕ, zero, suc, Bool, false, ◌||◌}

unfoldable pub some_below : (ℕ → Bool) → ℕ → Bool
some_below test zero = false
some_below test (suc n) = some_below test n || test n
