-- "Powers go by repeated squaring from the low bit; Rust leaves `powi` precision open, so the oracle's build decides."
use Rattle.std.specs.Prelude.{ℕ, zero, suc, ◌/◌, ◌%◌, cond, eqb, Float}
use Rattle.exact.specs.Rounded.{◌⊗◌, num}

-- r times a to the power b: while b is not 0, an odd b multiplies a in, a is squared and b halved. The first number bounds the turns.
unfoldable pub squarings : ℕ → Float → Float → ℕ → Float
squarings zero r a b = r
squarings (suc turns) r a b = cond (eqb b 0) r (squarings turns (cond (eqb (b % 2) 1) (r ⊗ a) r) (a ⊗ a) (b / 2))

-- x to the power n: n turns are more than its halvings
unfoldable pub power : Float → ℕ → Float
unfolding squarings
power x n = squarings n (num 1) x n
