-- "Weights follow `build_splines`, associated as printed", but for its two powers: the Rust prints `(0.5 - x).powi(2)` at order 2 and `(0.5 - x).powi(4)` at order 4, where the definition prints squares. They are the same float, of every x.
use mathlib.Core.Path.{◌≡◌, sym, ap}
use mathlib.Core.List.{[], ◌∷◌}
use lib.Ieee.{Float, binary64}
use lib.Ieee.Fits.{mul-fits}
use Rattle.exact.specs.Rounded.{◌⊕◌, ◌⊖◌, ◌⊗◌, ◌⊘◌, num, half, decimal}
use Rattle.exact.proofs.Ones.{mul-one_l}
use Rattle.axis.specs.Weights.{square, quartic, leading2, leading4}
use Rattle.poles.specs.Power.{power}

-- of every float, NaN and the infinities too: repeated squaring starts from 1, and a product fits
pub power_two : (x : Float) → power x 2 ≡ square x
unfolding power
power_two x = mul-one_l (square x) (mul-fits binary64 x x)

pub power_four : (x : Float) → power x 4 ≡ square (square x)
unfolding power
power_four x = mul-one_l (square (square x)) (mul-fits binary64 (square x) (square x))

-- the weights of orders 2 and 4 as the Rust prints them
pub printed_two : (x : Float) → leading2 x ≡ half ⊗ power (half ⊖ x) 2 ∷ decimal 75 100 ⊖ x ⊗ x ∷ []
unfolding leading2
printed_two x = ap (λ (p : Float). half ⊗ p ∷ decimal 75 100 ⊖ x ⊗ x ∷ []) (sym (power_two (half ⊖ x)))

pub printed_four :
    (x : Float) →
    let t = x ⊗ x in
    leading4 x ≡ power (half ⊖ x) 4 ⊘ num 24 ∷ quartic (num 1 ⊕ x) ∷ t ⊗ (t ⊗ decimal 25 100 ⊖ decimal 625 1000) ⊕ num 115 ⊘ num 192 ∷ quartic (num 1 ⊖ x) ∷ []
unfolding leading4
printed_four x =
    let t = x ⊗ x in
    ap (λ (p : Float). p ⊘ num 24 ∷ quartic (num 1 ⊕ x) ∷ t ⊗ (t ⊗ decimal 25 100 ⊖ decimal 625 1000) ⊕ num 115 ⊘ num 192 ∷ quartic (num 1 ⊖ x) ∷ []) (sym (power_four (half ⊖ x)))
