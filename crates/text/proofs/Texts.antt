-- Steps of a reading, at a place of a text: what is left of the text is the sign there and what is left behind it.
use Prim.Native.Nat.{ℕ, ◌+◌, ◌-◌, ◌*◌, ◌≤◌, ◌<◌, min}
use native.Mathlib.Nat.{le_refl, min-eq_left, min-eq_right}
use native.Mathlib.Numerals.{add-one}
use native.Mathlib.Omega.{arith}
use mathlib.Core.Path.{◌≡◌, refl, sym, ap, ◌∙◌, subst}
use mathlib.Core.Logic.{dite}
use native.Mathlib.Decide.{dec_lt}
use mathlib.Core.Bool.{Bool, true, false, not, ◌&&◌, cond, true≢false}
use mathlib.Core.List.{List, [], ◌∷◌}
use lib.Dec.{eqb, ltb, leb}
use borrow.Author.Tests.{eq-eqb, ne_eqb, lt-ltb, le-ltb, ltb-false, leb-true}
use lib.ListN.{length, get_or, drop, drop_of_length-le}
use lib.Seq.{drop-cons, drop-length}
use Rattle.std.specs.Char.{is_ascii_digit}
use Rattle.std.proofs.lemmas.Bool.Decides.{nat_tests}
use Rattle.text.specs.declared.Kind.{Kind}
use Rattle.text.specs.declared.Kind.TheVariants.{Digit}
use Rattle.text.specs.Text.{is_digit, is_quote, is_of, past, is_at, expect, literal, quoted, found}
use Rattle.text.specs.Numeral.{limit, value_from, numeral, after_numeral}

-- ---- the library's digits are these
pub ascii_digit : (x : ℕ) → is_ascii_digit x ≡ is_digit x
ascii_digit x = grind (arith, nat_tests)

-- ---- a number that is not 0
abbrev longer : ℕ → List ℕ → List ℕ
longer x xs = cond (is_digit x && ltb (numeral (x ∷ xs)) limit) (past Digit (x ∷ xs)) []

nonzero : (x : ℕ) (xs : List ℕ) → (x ≡ 48 → ⊥) → after_numeral (x ∷ xs) ≡ longer x xs
unfolding after_numeral
nonzero x xs n = ap (λ (t : Bool). cond t xs (longer x xs)) (ne_eqb x 48 n)

taken : (x : ℕ) (xs : List ℕ) → is_digit x ≡ true → numeral (x ∷ xs) < limit → longer x xs ≡ past Digit (x ∷ xs)
taken x xs e l = ap (λ (t : Bool). cond (t && ltb (numeral (x ∷ xs)) limit) (past Digit (x ∷ xs)) []) e ∙ ap (λ (t : Bool). cond t (past Digit (x ∷ xs)) []) (lt-ltb (numeral (x ∷ xs)) limit l)

other : (x : ℕ) (xs : List ℕ) → is_digit x ≡ false → longer x xs ≡ []
other x xs e = ap (λ (t : Bool). cond (t && ltb (numeral (x ∷ xs)) limit) (past Digit (x ∷ xs)) []) e

large : (x : ℕ) (xs : List ℕ) → limit ≤ numeral (x ∷ xs) → longer x xs ≡ []
large x xs l = ap (λ (t : Bool). cond (is_digit x && t) (past Digit (x ∷ xs)) []) (le-ltb (numeral (x ∷ xs)) limit l) ∙ none (is_digit x)
  where
    none : (t : Bool) → cond (t && false) (past Digit (x ∷ xs)) [] ≡ []
    none true = refl
    none false = refl

module _ (text : List ℕ) (at : ℕ) where
  pub sign_first : at < length text → drop at text ≡ get_or text at 0 ∷ drop (at + 1) text
  sign_first h = rw (add-one at) (drop-cons text at 0 h)

  -- nothing is left at the end
  pub lost : drop (length text) text ≡ []
  lost = drop-length text

  pub past_on : (kind : Kind) → at < length text → is_of kind (get_or text at 0) ≡ true → past kind (drop at text) ≡ past kind (drop (at + 1) text)
  unfolding past
  past_on kind h e = rw (sign_first h, e)

  pub past_stops : (kind : Kind) → at < length text → is_of kind (get_or text at 0) ≡ false → past kind (drop at text) ≡ drop at text
  unfolding past
  past_stops kind h e = rw (sign_first h, e)

  pub past_end : (kind : Kind) (end : ℕ) → length text ≤ at → length text ≤ end → past kind (drop at text) ≡ drop end text
  unfolding past
  past_end kind end h l = rw (drop_of_length-le text {i = at} h, drop_of_length-le text {i = end} l)

  pub is_there : (sign : ℕ) → at < length text → eqb (get_or text at 0) sign ≡ is_at sign (drop at text)
  unfolding is_at
  is_there sign h = rw (sign_first h)

  pub none_there : (sign : ℕ) → length text ≤ at → false ≡ is_at sign (drop at text)
  unfolding is_at
  none_there sign h = rw (drop_of_length-le text {i = at} h)

  -- what is left is found, or not
  pub some_left : at < length text → found (drop at text) ≡ true
  some_left h = rw (sign_first h)

  pub none_left : length text ≤ at → found (drop at text) ≡ false
  none_left h = rw (drop_of_length-le text {i = at} h)

  -- a sign that stands there is behind no end
  pub is_within : (sign : ℕ) → is_at sign (drop at text) ≡ true → at < length text
  is_within sign e =
      dite
      (dec_lt at (length text))
      (λ h. h)
      (λ h. absurd (true≢false (sym e ∙ sym (none_there sign (omega arith)))))

  pub expect_there : (sign : ℕ) → is_at sign (drop at text) ≡ true → drop (at + 1) text ≡ expect sign (drop at text)
  unfolding expect
  expect_there sign e =
      let h = is_within sign e in
      let there : eqb (get_or text at 0) sign ≡ true = is_there sign h ∙ e in
      rw (sign_first h, there)

  pub expect_other : (sign : ℕ) → is_at sign (drop at text) ≡ false → drop (length text) text ≡ expect sign (drop at text)
  unfolding expect
  expect_other sign e =
      dite
      (dec_lt at (length text))
      (λ h. let other : eqb (get_or text at 0) sign ≡ false = is_there sign h ∙ e in rw (sign_first h, other) lost)
      (λ h. let over : length text ≤ at = omega arith in rw (drop_of_length-le text {i = at} over) lost)

  -- ---- a word
  pub literal_on : (word : List ℕ) (i : ℕ) → i < length word → literal (drop i word) (drop at text) ≡ literal (drop (i + 1) word) (expect (get_or word i 0) (drop at text))
  unfolding literal
  literal_on word i h = rw (add-one i, drop-cons word i 0 h)

  pub literal_done : (word : List ℕ) (i : ℕ) → length word ≤ i → literal (drop i word) (drop at text) ≡ drop at text
  unfolding literal
  literal_done word i h = rw (drop_of_length-le word {i = i} h)

  pub quoted_there : (word : List ℕ) → at < length text → is_quote (get_or text at 0) ≡ true → quoted word (drop at text) ≡ expect (get_or text at 0) (literal word (drop (at + 1) text))
  unfolding quoted
  quoted_there word h e = rw (sign_first h, e)

  pub quoted_other : (word : List ℕ) → at < length text → is_quote (get_or text at 0) ≡ false → drop (length text) text ≡ quoted word (drop at text)
  unfolding quoted
  quoted_other word h e = rw (sign_first h, e) lost

  pub quoted_end : (word : List ℕ) → length text ≤ at → drop (length text) text ≡ quoted word (drop at text)
  unfolding quoted
  quoted_end word h = rw (drop_of_length-le text {i = at} h) lost

  -- ---- a number: its digits are read on from the number so far
  pub value_on : (n : ℕ) → at < length text → is_digit (get_or text at 0) ≡ true → value_from n (drop at text) ≡ value_from (n * 10 + (get_or text at 0 - 48)) (drop (at + 1) text)
  unfolding value_from
  value_on n h e = rw (sign_first h, e)

  pub value_stops : (n : ℕ) → at < length text → is_digit (get_or text at 0) ≡ false → value_from n (drop at text) ≡ n
  unfolding value_from
  value_stops n h e = rw (sign_first h, e)

  pub value_end : (n : ℕ) → length text ≤ at → value_from n (drop at text) ≡ n
  unfolding value_from
  value_end n h = rw (drop_of_length-le text {i = at} h)

  pub zero_there : at < length text → get_or text at 0 ≡ 48 → drop (at + 1) text ≡ after_numeral (drop at text)
  unfolding after_numeral
  zero_there h e = rw (sign_first h, eq-eqb (get_or text at 0) 48 e)

  pub numeral_there : at < length text → (get_or text at 0 ≡ 48 → ⊥) → is_digit (get_or text at 0) ≡ true → numeral (drop at text) < limit → past Digit (drop at text) ≡ after_numeral (drop at text)
  numeral_there h n e l = ap (past Digit) (sign_first h) ∙ sym (ap after_numeral (sign_first h) ∙ nonzero (get_or text at 0) (drop (at + 1) text) n ∙ taken (get_or text at 0) (drop (at + 1) text) e (subst (λ (t : List ℕ). numeral t < limit) (sign_first h) l))

  pub numeral_large : at < length text → (get_or text at 0 ≡ 48 → ⊥) → limit ≤ numeral (drop at text) → drop (length text) text ≡ after_numeral (drop at text)
  numeral_large h n l = lost ∙ sym (ap after_numeral (sign_first h) ∙ nonzero (get_or text at 0) (drop (at + 1) text) n ∙ large (get_or text at 0) (drop (at + 1) text) (subst (λ (t : List ℕ). limit ≤ numeral t) (sign_first h) l))

  pub numeral_other : at < length text → (get_or text at 0 ≡ 48 → ⊥) → is_digit (get_or text at 0) ≡ false → drop (length text) text ≡ after_numeral (drop at text)
  numeral_other h n e = lost ∙ sym (ap after_numeral (sign_first h) ∙ nonzero (get_or text at 0) (drop (at + 1) text) n ∙ other (get_or text at 0) (drop (at + 1) text) e)

  pub numeral_end : length text ≤ at → drop (length text) text ≡ after_numeral (drop at text)
  unfolding after_numeral
  numeral_end h = rw (drop_of_length-le text {i = at} h) lost

pub digit_within : (x : ℕ) → is_digit x ≡ true → (48 ≤ x) × (x ≤ 57)
digit_within x e = go (ltb x 48) (leb x 57) refl refl e
  where
    go : (a b : Bool) → ltb x 48 ≡ a → leb x 57 ≡ b → (not a && b) ≡ true → (48 ≤ x) × (x ≤ 57)
    go false true p q e = (ltb-false x 48 p, leb-true x 57 q)
    go false false p q e = absurd (true≢false (sym e))
    go true b p q e = absurd (true≢false (sym e))

pub value_grows : (n : ℕ) (text : List ℕ) → n ≤ value_from n text
unfolding value_from
value_grows n [] = le_refl n
value_grows n (x ∷ xs) = go (is_digit x) (value_grows (n * 10 + (x - 48)) xs)
  where
    go : (t : Bool) → n * 10 + (x - 48) ≤ value_from (n * 10 + (x - 48)) xs → n ≤ cond t (value_from (n * 10 + (x - 48)) xs) n
    go true r = omega arith
    go false r = le_refl n

pub numeral_is : (n : ℕ) (text : List ℕ) → value_from 0 text ≡ n → n < limit → n ≡ numeral text
unfolding numeral
numeral_is n text e h = sym (ap (λ (m : ℕ). min m limit) e ∙ min-eq_left (omega arith))

pub numeral-limit : (text : List ℕ) → limit ≤ value_from 0 text → limit ≡ numeral text
unfolding numeral
numeral-limit text h = sym (min-eq_right h)
