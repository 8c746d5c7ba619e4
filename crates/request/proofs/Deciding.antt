-- Whether some element of a list passes a test: by the element, and by its index.
use Prim.Native.Nat.{ℕ, zero, suc}
use mathlib.Core.Path.{◌≡◌, refl, sym, ap, ◌∙◌}
use mathlib.Core.Bool.{Bool, true, false, ◌||◌}
use mathlib.Core.List.{List, [], ◌∷◌}
use lib.ListN.{length, get_or}
use lib.Ieee.{Float, nan}
use Rattle.std.specs.List.{list_any}
use Rattle.lists.specs.Some.{some_below}

same_or : (a : Bool) → a ≡ (a || false)
same_or true = refl
same_or false = refl

or_assoc : (a b c : Bool) → ((a || b) || c) ≡ (a || (b || c))
or_assoc true b c = refl
or_assoc false b c = refl

first_or_later : (test : ℕ → Bool) (n : ℕ) → some_below test (suc n) ≡ (test 0 || some_below (λ i. test (suc i)) n)
unfolding some_below
first_or_later test zero = same_or (test 0)
first_or_later test (suc n) = ap (λ (b : Bool). b || test (suc n)) (first_or_later test n) ∙ or_assoc (test 0) (some_below (λ i. test (suc i)) n) (test (suc n))

pub any_of_list : (test : Float → Bool) (xs : List Float) → list_any test xs ≡ some_below (λ i. test (get_or xs i nan)) (length xs)
unfolding some_below
any_of_list test [] = refl
any_of_list test (x ∷ xs) = ap (λ (b : Bool). test x || b) (any_of_list test xs) ∙ sym (first_or_later (λ i. test (get_or (x ∷ xs) i nan)) (length xs))
