-- Whole numbers in plain decimal: "0", or digits that do not begin with one.
use Rattle.std.specs.Prelude.{ℕ, ◌+◌, ◌-◌, ◌*◌, ◌^◌, min, ◌&&◌, cond, List, [], ◌∷◌, eqb, ltb}
use Prim.Native.Char.{code}
use Rattle.text.specs.declared.Kind.TheVariants.{Digit}
use Rattle.text.specs.Text.{is_digit, past}

-- numbers are read below this
abbrev pub limit : ℕ
limit = 2 ^ 60

-- the digits that stand at the head of a text, read on from a number
unfoldable pub value_from : ℕ → List ℕ → ℕ
value_from n [] = n
value_from n (x ∷ xs) = cond (is_digit x) (value_from (n * 10 + (x - code "0")) xs) n

-- the number that they write, or the limit
unfoldable pub numeral : List ℕ → ℕ
unfolding value_from
numeral text = min (value_from 0 text) limit

unfoldable pub after_numeral : List ℕ → List ℕ
unfolding past numeral
after_numeral [] = []
after_numeral (x ∷ xs) = cond (eqb x (code "0")) xs (cond (is_digit x && ltb (numeral (x ∷ xs)) limit) (past Digit (x ∷ xs)) [])
