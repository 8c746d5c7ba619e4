-- `text::past` meets its contract.
use mathlib.Core.Path.{sym, ◌∙◌}
use native.Mathlib.Omega.{arith}
use Rattle.text.proofs.Texts.{past_end}
use Rattle.text.proofs.past.Goals as goal

pub returns : goal.returns
returns c = sym (c.loop-i.invariant ∙ past_end c.args.text.now c.loop-i.i c.args.kind c.max.result (omega arith) (omega (arith, c.max.ensures)))
