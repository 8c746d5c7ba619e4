-- The tests that a comparison of two floats of one sign comes down to, and what they say of the numbers.
-- Assumes nothing.
use Rattle.std.proofs.Common.{◌≡◌, ℕ, ◌≤◌, Bool, true, false, not, ◌&&◌, ◌||◌, T, eqb, ltb, ◌⊎◌, inl, inr, le_of_eq, le_of_lt, le_antisymm, eqb→eq, ltb→lt, nltb→le}
use lib.Ieee.Fits.{and_l}

pub or_split : (a b : Bool) → T (a || b) → T a ⊎ T b
or_split true b t = inl tt
or_split false b t = inr t

pub or_l : (a b : Bool) → T a → T (a || b)
or_l true b t = tt
or_l false b t = absurd t

pub or_r : (a b : Bool) → T b → T (a || b)
or_r true b t = tt
or_r false b t = t

-- a ≤ b, with u the test of equality
pub le_of_test : (a b : ℕ) (u : Bool) → (T u → a ≡ b) → T (ltb a b || u) → a ≤ b
le_of_test a b u f t = elim (or_split (ltb a b) u t) [ inl l ↦ le_of_lt (ltb→lt a b l) | inr e ↦ le_of_eq (f e) ]

pub test_of_le : (a b : ℕ) (u : Bool) → (a ≡ b → T u) → a ≤ b → T (ltb a b || u)
test_of_le a b u f h = go (ltb a b) (nltb→le a b)
  where
    go : (v : Bool) → (T (not v) → b ≤ a) → T (v || u)
    go true k = tt
    go false k = f (le_antisymm h (k tt))

-- the test of equality at two numbers of one sign
pub equal : (a b : ℕ) → T (eqb a b && true) → a ≡ b
equal a b t = eqb→eq a b (and_l (eqb a b) true t)

pub le_of_level : (a b : ℕ) → T (ltb a b || (eqb a b && true)) → a ≤ b
le_of_level a b = le_of_test a b (eqb a b && true) (equal a b)
