-- 1 times x is x.
use Rattle.std.proofs.Common.{◌≡◌, ℕ, ◌*◌, Bool, true, false, T, refl, ap, ◌∙◌, one-mul}
use lib.Ieee.{Float, nan, inf, fin, binary64, up, down, unlike, round, mul, of_int, fits}
use Rattle.exact.specs.Rounded.{◌⊗◌, num}
use Rattle.exact.proofs.Unique.{round_own}

unlike_l : (s : Bool) → unlike false s ≡ s
unlike_l true = refl
unlike_l false = refl

pub mul-one_l : (x : Float) → T (fits binary64 x) → num 1 ⊗ x ≡ x
unfolding mul of_int
mul-one_l nan t = refl
mul-one_l (inf s) t = ap inf (unlike_l s)
mul-one_l (fin s m e) t =
    ap (λ (z : Bool). round binary64 z (1 * (m * up e)) (1 * down e)) (unlike_l s)
    ∙ ap (λ (z : ℕ). round binary64 s z (1 * down e)) (one-mul (m * up e)) ∙ ap (λ (z : ℕ). round binary64 s (m * up e) z) (one-mul (down e)) ∙ round_own binary64 s m e t
