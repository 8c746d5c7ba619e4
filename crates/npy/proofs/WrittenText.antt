-- The text that the writer makes is a header, and its lengths are those that were written.
use Prim.Native.Nat.{ℕ, zero, suc, ◌≤◌, ◌<◌}
use mathlib.Core.Path.{◌≡◌, refl, ap, ◌∙◌}
use mathlib.Core.Bool.{Bool, true, not, ◌&&◌}
use mathlib.Core.List.{List, [], ◌∷◌, ◌++◌, append_assoc}
use lib.Dec.{lit<}
use lib.ListN.{get_or}
use Rattle.text.specs.declared.Kind.TheVariants.{Spacing}
use Rattle.text.specs.Text.{bytes, past, expect, found}
use Rattle.text.specs.Numeral.{numeral, after_numeral}
use Rattle.npy.specs.declared.header.Key.{Key}
use Rattle.npy.specs.declared.header.Key.TheVariants.{Descr, FortranOrder, Shape}
use Rattle.npy.specs.Header.{first_length, next_length, after_shape, lengths_in, key_at, value_at, after_entry, first_entry, next_entry, after_comma, closes, is_same, each_once, is_header, shape_entry, lengths_of}
use Rattle.npy.specs.File.{decimal, entries, written_text, spaces, spaces_after, padded}
use Rattle.npy.proofs.ShapeEntry.{shape_third}
use Rattle.npy.proofs.Numerals.{Leads, leads_stays, decimal_leads, numeral_back, numeral_behind}

-- ---- the entries, of which the last goes on with any text
abbrev first : List ℕ → List ℕ
first rest = bytes "'descr': '<f8', 'fortran_order': False, 'shape': (" ++ rest

abbrev second : List ℕ → List ℕ
second rest = bytes "'fortran_order': False, 'shape': (" ++ rest

abbrev third : List ℕ → List ℕ
third rest = bytes "'shape': (" ++ rest

module _ (rest : List ℕ) where
  at_first : first_entry (entries ++ rest) ≡ first rest
  unfolding first_entry
  at_first = refl

  key_first : key_at (first rest) ≡ Descr
  unfolding key_at
  key_first = refl

  at_second : next_entry (first rest) ≡ second rest
  unfolding next_entry
  at_second = refl

  key_second : key_at (second rest) ≡ FortranOrder
  unfolding key_at
  key_second = refl

  at-third : next_entry (second rest) ≡ third rest
  unfolding next_entry
  at-third = refl

  key_third : key_at (third rest) ≡ Shape
  unfolding key_at
  key_third = refl

  value_third : value_at (third rest) ≡ bytes "(" ++ rest
  unfolding value_at
  value_third = refl

  -- behind its value stands what is behind the shape
  after_third : after_entry (third rest) ≡ after_shape (bytes "(" ++ rest)
  unfolding after_entry
  after_third = refl

-- ---- the shape, of three numbers that are written in one to four digits and do not begin with 0
abbrev pub Plain : ℕ → Type 0
Plain n = (1 ≤ n) × (n < 10000)

-- the text from each number on
abbrev from_c : ℕ → List ℕ → List ℕ
from_c c rest = decimal c ++ (bytes "), }" ++ rest)

abbrev from_b : ℕ → ℕ → List ℕ → List ℕ
from_b b c rest = decimal b ++ (bytes ", " ++ from_c c rest)

abbrev from_a : ℕ → ℕ → ℕ → List ℕ → List ℕ
from_a a b c rest = decimal a ++ (bytes ", " ++ from_b b c rest)

-- the reader goes from number to number
first-length : (rest : List ℕ) → Leads rest → first_length (bytes "(" ++ rest) ≡ rest
unfolding first_length
first-length rest h = leads_stays rest h

next-length : (n : ℕ) (rest : List ℕ) → Plain n → Leads rest → next_length (decimal n ++ (bytes ", " ++ rest)) ≡ rest
unfolding next_length
next-length n rest p h = ap (λ (t : List ℕ). past Spacing (expect 44 (past Spacing t))) (numeral_behind n 44 (32 ∷ rest) p.1 refl p.0) ∙ leads_stays rest h

-- what it takes of a shape, by the places where the numbers stand
module _ (text : List ℕ) {a b c : List ℕ} (p : first_length text ≡ a) (q : next_length a ≡ b) (r : next_length b ≡ c) where
  second-found : next_length (first_length text) ≡ b
  second-found = ap next_length p ∙ q

  third-found : next_length (next_length (first_length text)) ≡ c
  third-found = ap next_length second-found ∙ r

  lengths_by : lengths_in text ≡ numeral a ∷ numeral b ∷ numeral c ∷ []
  unfolding lengths_in
  lengths_by = λ i. numeral (p i) ∷ numeral (second-found i) ∷ numeral (third-found i) ∷ []

  after_by : after_shape text ≡ expect 41 (past Spacing (after_numeral c))
  unfolding after_shape
  after_by = ap (λ (t : List ℕ). expect 41 (past Spacing (after_numeral t))) third-found

-- ---- a header, by its entries
lengths_at : (text : List ℕ) → lengths_of text ≡ lengths_in (value_at (shape_entry text))
unfolding lengths_of
lengths_at text = refl

-- behind its last entry
abbrev ends : List ℕ → Bool
ends entry = closes (after_comma (past Spacing (after_entry entry)))

header_by : (text : List ℕ) {a b c : List ℕ} → first_entry text ≡ a → next_entry (first_entry text) ≡ b → next_entry (next_entry (first_entry text)) ≡ c → is_header text ≡ (each_once (key_at a) (key_at b) (key_at c) && ends c)
unfolding is_header
header_by text p q r = λ i. each_once (key_at (p i)) (key_at (q i)) (key_at (r i)) && ends (r i)

ends_there : (rest : List ℕ) → past Spacing rest ≡ [] → closes (after_comma (past Spacing (bytes ", }" ++ rest))) ≡ true
unfolding closes after_comma
ends_there rest h = ap (λ (t : List ℕ). not (found t)) h

-- ---- our shape, and our text, before any text
module _ (a b c : ℕ) (rest : List ℕ) (pa : Plain a) (pb : Plain b) (pc : Plain c) where
  at_a : first_length (bytes "(" ++ from_a a b c rest) ≡ from_a a b c rest
  at_a = first-length (from_a a b c rest) (decimal_leads a (bytes ", " ++ from_b b c rest) pa.0 pa.1)

  at_b : next_length (from_a a b c rest) ≡ from_b b c rest
  at_b = next-length a (from_b b c rest) pa (decimal_leads b (bytes ", " ++ from_c c rest) pb.0 pb.1)

  at_c : next_length (from_b b c rest) ≡ from_c c rest
  at_c = next-length b (from_c c rest) pb (decimal_leads c (bytes "), }" ++ rest) pc.0 pc.1)

  shape_lengths : lengths_in (bytes "(" ++ from_a a b c rest) ≡ a ∷ b ∷ c ∷ []
  shape_lengths =
      let na = numeral_back a 44 (32 ∷ from_b b c rest) pa.1 refl in
      let nb = numeral_back b 44 (32 ∷ from_c c rest) pb.1 refl in
      let nc = numeral_back c 41 (bytes ", }" ++ rest) pc.1 refl in
      lengths_by (bytes "(" ++ from_a a b c rest) at_a at_b at_c ∙ λ i. na i ∷ nb i ∷ nc i ∷ []

  shape_after : after_shape (bytes "(" ++ from_a a b c rest) ≡ bytes ", }" ++ rest
  unfolding past expect
  shape_after = after_by (bytes "(" ++ from_a a b c rest) at_a at_b at_c ∙ ap (λ (t : List ℕ). expect 41 (past Spacing t)) (numeral_behind c 41 (bytes ", }" ++ rest) pc.1 refl pc.0)

  -- the text up to the shape's end, and what stands behind it
  abbrev shape : List ℕ
  shape = from_a a b c rest

  abbrev whole : List ℕ
  whole = entries ++ shape

  whole-second : next_entry (first_entry whole) ≡ second shape
  whole-second = ap next_entry (at_first shape) ∙ at_second shape

  whole-third : next_entry (next_entry (first_entry whole)) ≡ third shape
  whole-third = ap next_entry whole-second ∙ at-third shape

  whole_lengths : lengths_of whole ≡ a ∷ b ∷ c ∷ []
  whole_lengths =
      let none : key_at (first_entry whole) ≡ Descr = ap key_at (at_first shape) ∙ key_first shape in
      let one : key_at (next_entry (first_entry whole)) ≡ FortranOrder = ap key_at whole-second ∙ key_second shape in
      let entry : shape_entry whole ≡ third shape = shape_third whole (ap (λ (k : Key). is_same k Shape) none) (ap (λ (k : Key). is_same k Shape) one) ∙ whole-third in
      lengths_at whole ∙ ap lengths_in (ap value_at entry ∙ value_third shape) ∙ shape_lengths

  whole_header : past Spacing rest ≡ [] → is_header whole ≡ true
  whole_header h =
      let behind : after_entry (third shape) ≡ bytes ", }" ++ rest = after_third shape ∙ shape_after in
      header_by whole (at_first shape) whole-second whole-third
      ∙ (λ i. each_once (key_first shape i) (key_second shape i) (key_third shape i) && closes (after_comma (past Spacing (behind i))))
      ∙ ends_there rest h

-- ---- behind the text stand spaces and a newline
past-spaces : (n : ℕ) → past Spacing (spaces n ++ bytes "\n") ≡ []
unfolding past
past-spaces zero = refl
past-spaces (suc n) = past-spaces n

-- our text, before any text, is grouped from the left to the right
joined : (x y z rest : List ℕ) → (entries ++ (x ++ (bytes ", " ++ (y ++ (bytes ", " ++ (z ++ bytes "), }")))))) ++ rest ≡ entries ++ (x ++ (bytes ", " ++ (y ++ (bytes ", " ++ (z ++ (bytes "), }" ++ rest))))))
joined x y z rest = simp append_assoc

text_then : (d rest : List ℕ) → written_text d ++ rest ≡ entries ++ from_a (get_or d 0 0) (get_or d 1 0) (get_or d 2 0) rest
unfolding written_text
text_then d rest = joined (decimal (get_or d 0 0)) (decimal (get_or d 1 0)) (decimal (get_or d 2 0)) rest

-- ---- the text that the writer makes, of three such numbers
abbrev pub Plains : List ℕ → Type 0
Plains d = (i : ℕ) → i < 3 → Plain (get_or d i 0)

module _ (d : List ℕ) (plain : Plains d) where
  abbrev behind : List ℕ
  behind = spaces (spaces_after (written_text d)) ++ bytes "\n"

  pub text_header : is_header (padded (written_text d)) ≡ true
  text_header = ap is_header (text_then d behind) ∙ whole_header (get_or d 0 0) (get_or d 1 0) (get_or d 2 0) behind (plain 0 (lit< tt)) (plain 1 (lit< tt)) (plain 2 (lit< tt)) (past-spaces (spaces_after (written_text d)))

  pub text_lengths : lengths_of (padded (written_text d)) ≡ get_or d 0 0 ∷ get_or d 1 0 ∷ get_or d 2 0 ∷ []
  text_lengths = ap lengths_of (text_then d behind) ∙ whole_lengths (get_or d 0 0) (get_or d 1 0) (get_or d 2 0) behind (plain 0 (lit< tt)) (plain 1 (lit< tt)) (plain 2 (lit< tt))
