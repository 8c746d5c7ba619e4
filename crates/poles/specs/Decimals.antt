-- "In source order they are near -0.171573; -0.267949; -0.361341, -0.013725; -0.430575, -0.043096": each decimal is its pole rounded to six places.
use Rattle.std.specs.Prelude.{ℕ, suc, ◌*◌, ◌^◌, Bool, true, false, ◌&&◌, List, [], ◌∷◌, pos, negsuc, nat_abs, ◌+ℤ◌, ◌*ℤ◌, ltb, eqb, Float}
use Rattle.std.specs.Float.{nan, inf, fin}
use Rattle.exact.specs.Whole.{signed}
use Rattle.poles.specs.Poles.{PoleLine}

-- an order, and the millionths that its pole lies below 0
pub record Decimal : Type 0 where
  pub order : ℕ
  pub below : ℕ

abbrev millionths : ℕ → ℕ → Decimal
millionths order below = record { order = order; below = below }

unfoldable pub decimals : List Decimal
decimals = millionths 2 171573 ∷ millionths 3 267949 ∷ millionths 4 361341 ∷ millionths 4 13725 ∷ millionths 5 430575 ∷ millionths 5 43096 ∷ []

-- ±m / d, with d = 2 ^ k, lies less than half a millionth from -n / 1,000,000: both times 2,000,000 d
abbrev pub rounds : Float → ℕ → Bool
rounds (fin s m (negsuc k)) n =
    let d = 2 ^ suc k in
    ltb (nat_abs (signed s m *ℤ pos 2_000_000 +ℤ pos (2 * n * d))) d
rounds (fin s m (pos k)) n = false
rounds (inf s) n = false
rounds nan n = false

unfoldable pub near_decimal : PoleLine → Decimal → Bool
near_decimal l x = eqb l.order x.order && rounds l.pole.z x.below

-- the tables run side by side, and end together
abbrev pub all_near_decimals : List PoleLine → List Decimal → Bool
all_near_decimals [] [] = true
all_near_decimals [] (x ∷ xs) = false
all_near_decimals (l ∷ ls) [] = false
all_near_decimals (l ∷ ls) (x ∷ xs) = near_decimal l x && all_near_decimals ls xs
