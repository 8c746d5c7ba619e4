-- The weights: by order, and at a whole coordinate.
use Rattle.std.proofs.Common.{◌≡◌, ℕ, List, ◌∷◌, replicate, ℤ, sym, ap, ◌∙◌}
use lib.Ieee.{Float, of_int, add, sub}
use Rattle.exact.specs.Rounded.{◌⊖◌, num}
use Rattle.exact.specs.Whole.{Is}
use Rattle.exact.proofs.Modulo.{floor_is}
use Rattle.exact.proofs.Weights.{is_finite}
use Rattle.exact.proofs.Above.{sub_self}
use Rattle.axis.specs.Weights.{base, leading, leading1, completed, sum_from, six_floats, build_splines}

-- the weights of order k, where the order is k and b the floor that distances start from
pub by_order : {r : List Float} (order k : ℕ) (to b : Float) → order ≡ k → b ≡ base order to → r ≡ six_floats (completed (leading k (to ⊖ b))) → r ≡ build_splines order to
unfolding build_splines
by_order order k to b e f w = w ∙ (λ i. six_floats (completed (leading (sym e i) (to ⊖ f i))))

-- at a whole coordinate order 1 gives exactly 1 and 0
pub whole_linear : {to : Float} {z : ℤ} → Is to z → build_splines 1 to ≡ num 1 ∷ replicate 5 (num 0)
unfolding build_splines base leading leading1 completed sum_from sub add of_int
whole_linear {to} h =
    ap (λ (x : Float). six_floats (completed (leading 1 x))) (ap (λ (x : Float). to ⊖ x) (floor_is h) ∙ sub_self to (is_finite to h))
