-- "Each is proved within 2^-40 of a root, which means, over whole numbers, that the polynomial with its fractions cleared has opposite signs at the pole less 2^-40 and at the pole plus 2^-40."
use Rattle.std.specs.Prelude.{ℕ, suc, ◌-◌, ◌^◌, Bool, false, not, ◌&&◌, cond, List, [], ◌∷◌, ℤ, pos, negsuc, nat_abs, ◌+ℤ◌, ◌-ℤ◌, ◌*ℤ◌, ltb, eqb, Float}
use Rattle.std.specs.Bool.{beq}
use Rattle.std.specs.Float.{nan, inf, fin}
use Rattle.exact.specs.Whole.{signed, is_neg}
use Rattle.poles.specs.Poles.{PoleLine}

-- "order 2, z^2+6z+1; 3, z^2+4z+1; 4, z^4+76z^3+230z^2+76z+1; 5, z^4+26z^3+66z^2+26z+1": the coefficients, the highest power first
abbrev pub polynomial_of : ℕ → List ℕ
polynomial_of order =
    cond (eqb order 2) (1 ∷ 6 ∷ 1 ∷ [])
    (cond (eqb order 3) (1 ∷ 4 ∷ 1 ∷ [])
    (cond (eqb order 4) (1 ∷ 76 ∷ 230 ∷ 76 ∷ 1 ∷ [])
    (cond (eqb order 5) (1 ∷ 26 ∷ 66 ∷ 26 ∷ 1 ∷ []) [])))

-- the polynomial at n / d, times d to the power of its degree: by Horner's rule, with d ^ k for the terms so far
abbrev pub cleared : ℤ → ℤ → ℤ → ℤ → List ℕ → ℤ
cleared n d sum power [] = sum
cleared n d sum power (c ∷ cs) = cleared n d (sum *ℤ n +ℤ pos c *ℤ power) (power *ℤ d) cs

abbrev pub value_at : ℤ → ℕ → List ℕ → ℤ
value_at n d cs = cleared n (pos d) (pos 0) (pos 1) cs

-- ±m / 2 ^ k less and plus 2 ^ -40, both over 2 ^ k: the signs differ, and neither value is 0
abbrev pub straddles : Float → List ℕ → Bool
straddles (fin s m (negsuc k)) cs =
    let d = 2 ^ suc k in
    let step = 2 ^ (suc k - 40) in
    let below = value_at (signed s m -ℤ pos step) d cs in
    let above = value_at (signed s m +ℤ pos step) d cs in
    ltb 0 (nat_abs below) && ltb 0 (nat_abs above) && not (beq (is_neg below) (is_neg above))
straddles (fin s m (pos k)) cs = false
straddles (inf s) cs = false
straddles nan cs = false

unfoldable pub near_root : PoleLine → Bool
near_root l = straddles l.pole.z (polynomial_of l.order)
