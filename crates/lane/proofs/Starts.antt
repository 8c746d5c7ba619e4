-- The starts of the passes: the sums of the causal ones, turn by turn. `i` is the place that the next turn reads: i - 1 turns are done.
use Prim.Native.Nat.{ℕ, suc, ◌+◌, ◌-◌, ◌≤◌, ◌<◌}
use mathlib.Core.Path.{◌≡◌, ap}
use mathlib.Core.Bool.{cond}
use mathlib.Core.List.{List}
use native.Mathlib.Omega.{arith}
use borrow.Author.Tests.{eq-eqb, ne_eqb}
use lib.Dec.{eqb}
use lib.ListN.{length}
use lib.Ieee.{Float}
use Rattle.exact.specs.Rounded.{◌⊕◌, ◌⊗◌, ◌⊘◌, num}
use Rattle.poles.specs.Power.{power}
use Rattle.lane.specs.Lane.{at, running, near_sum, returning, whole_sum, reflect_sum}

done : (i : ℕ) → 1 ≤ i → i + 1 - 1 ≡ suc (i - 1)
done i h = omega arith

here : (i : ℕ) → 1 ≤ i → suc (i - 1) ≡ i
here i h = omega arith

pub running_turn : (z factor : Float) (i : ℕ) → 1 ≤ i → factor ≡ running z (i - 1) → factor ⊗ z ≡ running z (i + 1 - 1)
unfolding running
running_turn z factor i h e = rw (done i h) (ap (λ (x : Float). x ⊗ z) e)

pub returning_turn : (z back : Float) (n i : ℕ) → 1 ≤ i → back ≡ returning z n (i - 1) → back ⊗ (num 1 ⊘ z) ≡ returning z n (i + 1 - 1)
unfolding returning
returning_turn z back n i h e = rw (done i h) (ap (λ (x : Float). x ⊗ (num 1 ⊘ z)) e)

module _ (z : Float) (lane : List Float) (i : ℕ) (factor sum : Float) (low : 1 ≤ i) (f : factor ≡ running z (i - 1)) where
  pub near_turn : sum ≡ near_sum z lane (i - 1) → sum ⊕ factor ⊗ at lane i ≡ near_sum z lane (i + 1 - 1)
  unfolding near_sum
  near_turn s = rw (done i low) (rw (f, s, here i low))

  pub whole_turn : (back : Float) → back ≡ returning z (length lane) (i - 1) → sum ≡ whole_sum z lane (i - 1) → sum ⊕ (factor ⊕ back) ⊗ at lane i ≡ whole_sum z lane (i + 1 - 1)
  unfolding whole_sum
  whole_turn back b s = rw (done i low) (rw (f, s, b, here i low))

  module _ (whole : Float) (w : whole ≡ power z (length lane)) (s : sum ≡ reflect_sum z lane (i - 1)) where
    reflect_by : (other : Float) → other ≡ cond (eqb (length lane - 1 - i) 0) sum (at lane (length lane - 1 - i)) → sum ⊕ factor ⊗ (at lane i ⊕ whole ⊗ other) ≡ reflect_sum z lane (i + 1 - 1)
    unfolding reflect_sum
    reflect_by other o = rw (done i low) (rw (o, w, f, s, here i low))

    pub reflect_turn : i < length lane - 1 → sum ⊕ factor ⊗ (at lane i ⊕ whole ⊗ at lane (length lane - 1 - i)) ≡ reflect_sum z lane (i + 1 - 1)
    reflect_turn h = reflect_by (at lane (length lane - 1 - i)) (rw (ne_eqb (length lane - 1 - i) 0 (λ e. omega arith)))

    -- the place that faces the last is 0, where the source has put the sum itself
    pub reflect_last : i ≡ length lane - 1 → sum ⊕ factor ⊗ (at lane (length lane - 1) ⊕ whole ⊗ sum) ≡ reflect_sum z lane (length lane - 1)
    reflect_last h =
        let e : i + 1 - 1 ≡ i = omega arith in
        rw (← h) (rw e at (reflect_by sum (rw (eq-eqb (length lane - 1 - i) 0 (omega arith)))))
