-- `numbers::requests::mode_of` meets its contract.
use Prim.Native.Nat.{ℕ}
use mathlib.Core.Path.{◌≡◌, sym, ap}
use lib.Ieee.{Float}
use borrow.Author.Tests.{ne_eqb}
use Rattle.numbers.specs.Numbers.{mode_of}
use Rattle.numbers.proofs.requests.mode_of.Goals as goal

-- a number that the code found is the definition's
numbered : (fill : Float) {mode n : ℕ} → mode ≡ n → mode_of n fill ≡ mode_of mode fill
numbered fill e = ap (λ (m : ℕ). mode_of m fill) (sym e)

pub returns-in-0 : goal.returns-in-0
unfolding mode_of
returns-in-0 c = numbered c.args.fill c.in-0.is

pub returns-in-1 : goal.returns-in-1
unfolding mode_of
returns-in-1 c = numbered c.args.fill c.in-1.is

pub returns-in-2 : goal.returns-in-2
unfolding mode_of
returns-in-2 c = numbered c.args.fill c.in-2.is

pub returns-in-3 : goal.returns-in-3
unfolding mode_of
returns-in-3 c = numbered c.args.fill c.in-3.is

pub returns-in-4 : goal.returns-in-4
unfolding mode_of
returns-in-4 c = numbered c.args.fill c.in-4.is

pub returns-in_default : goal.returns-in_default
unfolding mode_of
returns-in_default c = let n = c.in_default.in_default-own.rest in simp (ne_eqb _ _ n.0.0.0.0.1, ne_eqb _ _ n.0.0.0.1, ne_eqb _ _ n.0.0.1, ne_eqb _ _ n.0.1, ne_eqb _ _ n.1)
