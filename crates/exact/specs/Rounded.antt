-- The operations of binary64 by the signs that papers on rounding have for them: each is the exact result, rounded once. The literals of the code.
use Rattle.std.specs.Prelude.{ℕ, false, pos, negsuc, Float}
use Rattle.std.specs.Float.{fin, binary64}
use Rattle.std.specs.Float.Ieee.{add, sub, mul, div, round, of_int}

infixl 71 ◌⊕◌ ◌⊖◌
infixl 72 ◌⊗◌ ◌⊘◌
abbrev pub ◌⊕◌ : Float → Float → Float
x ⊕ y = add binary64 x y

abbrev pub ◌⊖◌ : Float → Float → Float
x ⊖ y = sub binary64 x y

abbrev pub ◌⊗◌ : Float → Float → Float
x ⊗ y = mul binary64 x y

abbrev pub ◌⊘◌ : Float → Float → Float
x ⊘ y = div binary64 x y

-- the literal n
abbrev pub num : ℕ → Float
num n = of_int binary64 (pos n)

-- the literal 0.5
abbrev pub half : Float
half = fin false 1 (negsuc 0)

-- the literal n / d in decimals: the float nearest to it
abbrev pub decimal : ℕ → ℕ → Float
decimal n d = round binary64 false n d
