-- `border::fold_wrap` meets its contract.
use Rattle.exact.proofs.Literals.{zero_bits, one_bits}
use mathlib.Core.Path.{sym}
use Rattle.border.specs.Fold.{fold_wrap}
use Rattle.border.proofs.fold_wrap.Goals as goal

pub returns-then-idx : goal.returns-then-idx
unfolding fold_wrap
returns-then-idx c = simp (zero_bits, one_bits, sym c.floor.ensures, c.if-idx.true)

pub returns-then-idx-len : goal.returns-then-idx-len
unfolding fold_wrap
returns-then-idx-len c = simp (zero_bits, one_bits, c.over.ensures, c.if-idx.false, c.if-idx-len.true)

pub returns-else-idx-len : goal.returns-else-idx-len
unfolding fold_wrap
returns-else-idx-len c = simp (zero_bits, one_bits, c.if-idx.false, c.if-idx-len.false)
