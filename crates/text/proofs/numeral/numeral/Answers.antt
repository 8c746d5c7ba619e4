-- `text::numeral::numeral` meets its contract: what the digits write stays the same as they are read, and the number so far is below the limit.
use Prim.Native.Nat.{ℕ, ◌+◌, ◌*◌}
use native.Mathlib.Nat.{le_trans}
use mathlib.Core.Path.{◌≡◌, sym, ap, ◌∙◌}
use mathlib.Core.Bool.{true}
use native.Mathlib.Omega.{arith}
use lib.ListN.{get_or, drop}
use Rattle.text.specs.Text.{is_digit}
use Rattle.text.specs.Numeral.{value_from}
use Rattle.text.proofs.Texts.{ascii_digit, value_on, value_stops, value_end, digit_within, value_grows, numeral_is, numeral-limit}
use Rattle.text.proofs.numeral.numeral.Goals.{After-from}
use Rattle.text.proofs.numeral.numeral.Goals as goal

pub returns-then-not-is_ascii_digit : goal.returns-then-not-is_ascii_digit
returns-then-not-is_ascii_digit c =
    let a = c.args in
    let none = sym (ascii_digit (get_or a.text.now c.loop-i.i 0)) ∙ sym c.is_ascii_digit.ensures.value ∙ c.if-not-is_ascii_digit.true in
    numeral_is c.loop-i.n (drop a.at a.text.now) (c.loop-i.invariant.0 ∙ value_stops a.text.now c.loop-i.i c.loop-i.n (omega arith) none) c.loop-i.invariant.1

-- the sign that is read is a digit
abbrev sign : After-from → ℕ
sign c = get_or c.args.text.now c.loop-i.i 0

digit : (c : After-from) → is_digit (sign c) ≡ true
digit c = sym (ascii_digit (sign c)) ∙ sym c.is_ascii_digit.ensures.value ∙ c.if-not-is_ascii_digit.false

-- and it is read on
read_on : (c : After-from) → let a = c.args in value_from 0 (drop a.at a.text.now) ≡ value_from (c.loop-i.n * 10 + c.from.result) (drop (c.loop-i.i + 1) a.text.now)
read_on c =
    let a = c.args in
    c.loop-i.invariant.0 ∙ value_on a.text.now c.loop-i.i c.loop-i.n (omega arith) (digit c) ∙ ap (λ (x : ℕ). value_from (c.loop-i.n * 10 + x) (drop (c.loop-i.i + 1) a.text.now)) (sym c.from.ensures)

pub overflow_add-n : goal.overflow_add-n
overflow_add-n c = record { fits = omega (arith, digit_within (sign c) (digit c)) }

pub returns-then-n-ge-LIMIT : goal.returns-then-n-ge-LIMIT
returns-then-n-ge-LIMIT c =
    let a = c.args in
    let grown = value_grows _ _ in
    numeral-limit (drop a.at a.text.now) (rw (read_on (goal.at.returns-then-n-ge-LIMIT c).After-from) (le_trans c.if-n-ge-LIMIT.true grown))

pub loop-i-preserved : goal.loop-i-preserved
loop-i-preserved c = (read_on (goal.at.loop-i-preserved c).After-from, c.if-n-ge-LIMIT.false)

pub returns : goal.returns
returns c =
    let a = c.args in
    numeral_is c.loop-i.n (drop a.at a.text.now) (c.loop-i.invariant.0 ∙ value_end a.text.now c.loop-i.i c.loop-i.n (omega arith)) c.loop-i.invariant.1
