-- A float that equals itself is no NaN: the test that code makes before it takes a float's bits.
use Rattle.std.proofs.Common.{◌≡◌, true, not, T, sym, true≢false}
use lib.Ieee.{Float, nan, inf, fin, eq, is_nan}

pub no_nan : (x : Float) → eq x x ≡ true → T (not (is_nan x))
unfolding eq is_nan
no_nan nan h = absurd (true≢false (sym h))
no_nan (inf s) h = tt
no_nan (fin s m e) h = tt
