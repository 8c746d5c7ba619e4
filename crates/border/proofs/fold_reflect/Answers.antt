-- `border::fold_reflect` meets its contract.
use mathlib.Core.Path.{◌≡◌, ◌∙◌}
use mathlib.Core.Bool.{true, false}
use lib.Ieee.{of_bits, of_int}
use Rattle.exact.proofs.Literals.{zero_bits}
use Rattle.border.specs.Fold.{fold_reflect, reflect_under}
use Rattle.border.proofs.Arms.{reflect-under, reflect_far, reflect_near, reflect_over}
use Rattle.border.proofs.fold_reflect.Goals.{Joined-idx-s2, then-idx-s2, else-idx-s2}
use Rattle.border.proofs.fold_reflect.Goals as goal

-- the coordinate after the first step
stands : (c : Joined-idx-s2) → c.if-idx-s2.t ≡ reflect_under c.args.idx c.args.len
unfolding of_bits of_int
stands c =
    let a = c.args in
    elim c.if-idx-s2.branch [
      | then-idx-s2 w ↦ w.t-is ∙ reflect_far a.idx a.len w.under-t.result w.under-t.ensures w.if-idx-s2.true
      | else-idx-s2 w ↦ w.t-is ∙ reflect_near a.idx a.len a.idx w.if-idx-s2.false
    ]

pub returns-then-t-len : goal.returns-then-t-len
unfolding of_bits of_int
returns-then-t-len c = reflect-under c.args.idx c.args.len c.if-idx-s2.t (stands (goal.at.returns-then-t-len c).Joined-idx-s2) c.if-idx.true true c.if-t-len.true

pub returns-else-t-len : goal.returns-else-t-len
unfolding of_bits of_int
returns-else-t-len c = reflect-under c.args.idx c.args.len c.if-idx-s2.t (stands (goal.at.returns-else-t-len c).Joined-idx-s2) c.if-idx.true false c.if-t-len.false

pub returns-then-t-len-2 : goal.returns-then-t-len-2
unfolding of_bits of_int
returns-then-t-len-2 c = reflect_over c.args.idx c.args.len c.over-t.result c.over-t.ensures c.if-idx.false c.if-idx-len.true true c.if-t-len-2.true

pub returns-else-t-len-2 : goal.returns-else-t-len-2
unfolding of_bits of_int
returns-else-t-len-2 c = reflect_over c.args.idx c.args.len c.over-t.result c.over-t.ensures c.if-idx.false c.if-idx-len.true false c.if-t-len-2.false

pub returns-else-idx-len : goal.returns-else-idx-len
unfolding fold_reflect
returns-else-idx-len c = simp (zero_bits, c.if-idx.false, c.if-idx-len.false)
