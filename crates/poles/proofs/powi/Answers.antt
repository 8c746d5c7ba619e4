-- `poles::powi` meets its contract: what is left of the squarings does not change from turn to turn.
use mathlib.Core.Path.{◌≡◌, refl, ap, ◌∙◌}
use mathlib.Core.Bool.{cond}
use Prim.Native.Nat.{◌%◌, ◌/◌}
use borrow.Author.Tests.{eq-eqb, ne_eqb}
use lib.Dec.{eqb}
use lib.Ieee.{Float, of_bits, of_int}
use Rattle.exact.specs.Rounded.{◌⊗◌}
use Rattle.poles.specs.Power.{squarings, power}
use Rattle.poles.proofs.Powers.{halve, ended}
use Rattle.poles.proofs.powi.Goals.{then-b-eq1, else-b-eq1}
use Rattle.poles.proofs.powi.Goals as goal

pub loop-b-init : goal.loop-b-init
unfolding power of_bits of_int
loop-b-init c = refl

pub loop-b-preserved : goal.loop-b-preserved
loop-b-preserved c =
    let at = c.loop-b in
    let test : c.if-b-eq1.r ≡ cond (eqb (at.b % 2) 1) (at.r ⊗ at.a) at.r = elim c.if-b-eq1.branch [ then-b-eq1 w ↦ rw (eq-eqb (at.b % 2) 1 w.if-b-eq1.true) w.r-is | else-b-eq1 w ↦ rw (ne_eqb (at.b % 2) 1 w.if-b-eq1.false) w.r-is ] in
    ap (λ (r : Float). squarings (at.b / 2) r (at.a ⊗ at.a) (at.b / 2)) test ∙ halve at.r at.a at.b c.loop-b-test.true ∙ at.invariant

pub returns : goal.returns
returns c = ended c.loop-b.r c.loop-b.a c.loop-b.b c.loop-b-test.false ∙ c.loop-b.invariant
