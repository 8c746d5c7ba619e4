-- `border::fold_replicate` meets its contract.
use Rattle.exact.proofs.Literals.{zero_bits, one_bits}
use Rattle.border.specs.Fold.{fold_replicate}
use Rattle.border.proofs.fold_replicate.Goals as goal

pub returns-then-idx : goal.returns-then-idx
unfolding fold_replicate
returns-then-idx c = simp (zero_bits, one_bits, c.if-idx.true)

pub returns-then-idx-last : goal.returns-then-idx-last
unfolding fold_replicate
returns-then-idx-last c = simp (zero_bits, one_bits, c.if-idx.false, c.if-idx-last.true)

pub returns-else-idx-last : goal.returns-else-idx-last
unfolding fold_replicate
returns-else-idx-last c = simp (zero_bits, one_bits, c.if-idx.false, c.if-idx-last.false)
