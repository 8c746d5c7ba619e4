-- `border::fold_constant` meets its contract.
use mathlib.Core.Path.{◌≡◌, sym, ap, ◌∙◌}
use mathlib.Core.Bool.{Bool, ◌||◌}
use lib.Ieee.{of_bits, of_int, lt, le}
use Rattle.exact.specs.Rounded.{num}
use Rattle.exact.proofs.Literals.{one_bits}
use Rattle.border.specs.Fold.{fold_constant}
use Rattle.border.proofs.fold_constant.Goals.{Joined-idx, then-idx, else-idx}
use Rattle.border.proofs.fold_constant.Goals as goal

-- what the two tests tell
outside : (c : Joined-idx) → (lt c.args.idx (num 0) || le c.args.len c.args.idx) ≡ c.if-idx.value
unfolding of_bits of_int
outside c =
    let a = c.args in
    elim c.if-idx.branch [
      | then-idx w ↦ ap (λ (b : Bool). b || le a.len a.idx) w.if-idx.true ∙ sym (w.value-is ∙ w.if-idx.true)
      | else-idx w ↦ ap (λ (b : Bool). b || le a.len a.idx) w.if-idx.false ∙ sym w.value-is
    ]

pub returns-then-idx-len : goal.returns-then-idx-len
unfolding fold_constant
returns-then-idx-len c = simp (one_bits, outside (goal.at.returns-then-idx-len c).Joined-idx ∙ c.if-idx-len.true)

pub returns-else-idx-len : goal.returns-else-idx-len
unfolding fold_constant
returns-else-idx-len c = simp (outside (goal.at.returns-else-idx-len c).Joined-idx ∙ c.if-idx-len.false)
