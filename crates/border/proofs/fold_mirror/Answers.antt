-- `border::fold_mirror` meets its contract.
use mathlib.Core.Bool.{true, false}
use lib.Ieee.{of_bits, of_int}
use Rattle.exact.proofs.Literals.{zero_bits}
use Rattle.border.specs.Fold.{fold_mirror}
use Rattle.border.proofs.Arms.{mirror_under, mirror_over}
use Rattle.border.proofs.fold_mirror.Goals as goal

pub returns-then-t-len : goal.returns-then-t-len
unfolding of_bits of_int
returns-then-t-len c = mirror_under c.args.idx c.args.len c.under-t.result c.under-t.ensures c.if-idx.true true c.if-t-len.true

pub returns-else-t-len : goal.returns-else-t-len
unfolding of_bits of_int
returns-else-t-len c = mirror_under c.args.idx c.args.len c.under-t.result c.under-t.ensures c.if-idx.true false c.if-t-len.false

pub returns-then-t-len-2 : goal.returns-then-t-len-2
unfolding of_bits of_int
returns-then-t-len-2 c = mirror_over c.args.idx c.args.len c.over-t.result c.over-t.ensures c.if-idx.false c.if-idx-len.true true c.if-t-len-2.true

pub returns-else-t-len-2 : goal.returns-else-t-len-2
unfolding of_bits of_int
returns-else-t-len-2 c = mirror_over c.args.idx c.args.len c.over-t.result c.over-t.ensures c.if-idx.false c.if-idx-len.true false c.if-t-len-2.false

pub returns-else-idx-len : goal.returns-else-idx-len
unfolding fold_mirror
returns-else-idx-len c = simp (zero_bits, c.if-idx.false, c.if-idx-len.false)
