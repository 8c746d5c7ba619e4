-- "Given exactly when": refusal n of an entry, by document 01's number.
use Rattle.std.specs.Prelude.{ℕ, ◌≡◌, Bool, true, false, ◌||◌, cond, List, [], ◌∷◌, eqb}
use Rattle.refusal.specs.Refusals.{Check, number_of}

-- whether refusal n's condition holds; it does not where the entry does not check it
abbrev pub holds : List Check → ℕ → Bool
holds [] n = false
holds (c ∷ cs) n = cond (eqb (number_of c.says) n) c.applies (holds cs n)

-- the checks that stand before refusal n's
abbrev pub earlier : List Check → ℕ → List Check
earlier [] n = []
earlier (c ∷ cs) n = cond (eqb (number_of c.says) n) [] (c ∷ earlier cs n)

-- refusal n's condition holds and no earlier one does
pub record FirstToHold (l : List Check) (n : ℕ) : Type 0 where
  pub this : holds l n ≡ true
  pub before : (m : ℕ) → holds (earlier l n) m ≡ false

-- no condition holds, but for refusal n's, of which nothing is said
abbrev pub NoneBut : List Check → ℕ → Type 0
NoneBut l n = (m : ℕ) → (m ≡ n → ⊥) → holds l m ≡ false

-- one of these numbers
abbrev pub among : List ℕ → ℕ → Bool
among [] n = false
among (k ∷ ks) n = eqb n k || among ks n
