-- `text::numeral::after_numeral` meets its contract.
use mathlib.Core.Path.{sym, ◌∙◌}
use native.Mathlib.Omega.{arith}
use lib.ListN.{get_or}
use Rattle.text.proofs.Texts.{ascii_digit, zero_there, numeral_there, numeral_large, numeral_other, numeral_end}
use Rattle.text.proofs.numeral.after_numeral.Goals.{else-is_ascii_digit-via-then-is_ascii_digit+else-numeral-lt-LIMIT, else-is_ascii_digit-via-else-is_ascii_digit}
use Rattle.text.proofs.numeral.after_numeral.Goals as goal

pub returns-then-at-text : goal.returns-then-at-text
returns-then-at-text c = let a = c.args in numeral_end a.text.now a.at c.if-at-text.true

pub returns-then-text-at-eq48 : goal.returns-then-text-at-eq48
returns-then-text-at-eq48 c = let a = c.args in zero_there a.text.now a.at (omega arith) c.if-text-at-eq48.true

pub returns-then-numeral-lt-LIMIT : goal.returns-then-numeral-lt-LIMIT
returns-then-numeral-lt-LIMIT c =
    let a = c.args in
    c.past.ensures ∙ numeral_there a.text.now a.at (omega arith) c.if-text-at-eq48.false (sym (ascii_digit (get_or a.text.now a.at 0)) ∙ sym c.is_ascii_digit.ensures.value ∙ c.if-is_ascii_digit.true) (rw (sym c.numeral.ensures) c.if-numeral-lt-LIMIT.true)

pub returns-else-is_ascii_digit : goal.returns-else-is_ascii_digit
returns-else-is_ascii_digit c =
    let a = c.args in
    elim c.else-is_ascii_digit.branch [
      | else-is_ascii_digit-via-then-is_ascii_digit+else-numeral-lt-LIMIT w ↦ numeral_large a.text.now a.at (omega arith) c.if-text-at-eq48.false (rw (sym w.numeral.ensures) w.if-numeral-lt-LIMIT.false)
      | else-is_ascii_digit-via-else-is_ascii_digit w ↦ numeral_other a.text.now a.at (omega arith) c.if-text-at-eq48.false (sym (ascii_digit (get_or a.text.now a.at 0)) ∙ sym c.is_ascii_digit.ensures.value ∙ w.if-is_ascii_digit.false)
    ]
