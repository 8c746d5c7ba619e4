-- `border::fold_nearest` meets its contract.
use Rattle.exact.proofs.Literals.{zero_bits, one_bits}
use Rattle.border.specs.Fold.{fold_nearest}
use Rattle.border.proofs.fold_nearest.Goals as goal

pub returns-then-idx : goal.returns-then-idx
unfolding fold_nearest
returns-then-idx c = simp (zero_bits, one_bits, c.if-idx.true)

pub returns-then-idx-len : goal.returns-then-idx-len
unfolding fold_nearest
returns-then-idx-len c = simp (zero_bits, one_bits, c.if-idx.false, c.if-idx-len.true)

pub returns-else-idx-len : goal.returns-else-idx-len
unfolding fold_nearest
returns-else-idx-len c = simp (zero_bits, one_bits, c.if-idx.false, c.if-idx-len.false)
