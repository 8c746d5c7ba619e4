-- Powers by repeated squaring: the number of turns that `power` allows does not matter, and a turn of the code is one of the definition.
use Prim.Native.Nat.{ℕ, zero, suc, ◌/◌, ◌%◌, ◌≤◌, ◌<◌}
use mathlib.Core.Path.{◌≡◌, refl}
use mathlib.Core.Bool.{cond}
use native.Mathlib.Nat.{not-suc-le-zero}
use native.Mathlib.Omega.{arith}
use lib.Dec.{eqb, eqb-suc-zero}
use lib.Ieee.{Float}
use Rattle.exact.specs.Rounded.{◌⊗◌}
use Rattle.poles.specs.Power.{squarings}

-- any two counts of turns that are not below b give the same
same_turns : (s t : ℕ) (r a : Float) (b : ℕ) → b ≤ s → b ≤ t → squarings s r a b ≡ squarings t r a b
unfolding squarings
same_turns zero zero r a b p q = refl
same_turns zero (suc t) r a zero p q = refl
same_turns zero (suc t) r a (suc b) p q = absurd (not-suc-le-zero p)
same_turns (suc s) zero r a zero p q = refl
same_turns (suc s) zero r a (suc b) p q = absurd (not-suc-le-zero q)
same_turns (suc s) (suc t) r a zero p q = refl
same_turns (suc s) (suc t) r a (suc b) p q = rw eqb-suc-zero (same_turns s t (cond (eqb (suc b % 2) 1) (r ⊗ a) r) (a ⊗ a) (suc b / 2) (omega arith) (omega arith))

-- one turn of the code
pub halve : (r a : Float) (b : ℕ) → 0 < b → squarings (b / 2) (cond (eqb (b % 2) 1) (r ⊗ a) r) (a ⊗ a) (b / 2) ≡ squarings b r a b
unfolding squarings
halve r a zero h = absurd (not-suc-le-zero h)
halve r a (suc b) h = rw eqb-suc-zero (same_turns (suc b / 2) b (cond (eqb (suc b % 2) 1) (r ⊗ a) r) (a ⊗ a) (suc b / 2) (omega arith) (omega arith))

pub ended : (r a : Float) (b : ℕ) → b ≤ 0 → r ≡ squarings b r a b
unfolding squarings
ended r a zero h = refl
ended r a (suc b) h = absurd (not-suc-le-zero h)
