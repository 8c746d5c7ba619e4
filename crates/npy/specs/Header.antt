-- The text of a header, a Python dictionary of three entries: what NumPy's own reader takes and document 02 admits, "those keys in another order, double quotes, other spacing and no last comma". The lines of the grammar stand beside their definitions; s is any number of spaces, tabs and newlines.
use Rattle.std.specs.Prelude.{ℕ, Bool, true, false, not, ◌&&◌, cond, List, [], ◌∷◌}
use Prim.Native.Char.{code}
use Rattle.text.specs.declared.Kind.TheVariants.{Blank, Spacing}
use Rattle.text.specs.Text.{bytes, past, is_at, expect, literal, quoted, found}
use Rattle.text.specs.Numeral.{numeral, after_numeral}
use Rattle.npy.specs.declared.header.Key.{Key}
use Rattle.npy.specs.declared.header.Key.TheVariants.{Descr, FortranOrder, Shape, Other}

-- ---- shape = "(" s num s "," s num s "," s num s ")"
unfoldable pub first_length : List ℕ → List ℕ
unfolding past expect
first_length text = past Spacing (expect (code "(") text)

unfoldable pub next_length : List ℕ → List ℕ
unfolding past expect after_numeral
next_length text = past Spacing (expect (code ",") (past Spacing (after_numeral text)))

unfoldable pub after_shape : List ℕ → List ℕ
unfolding past expect after_numeral first_length next_length
after_shape text = expect (code ")") (past Spacing (after_numeral (next_length (next_length (first_length text)))))

unfoldable pub lengths_in : List ℕ → List ℕ
unfolding numeral first_length next_length
lengths_in text =
    let a = first_length text in
    let b = next_length a in
    let c = next_length b in
    numeral a ∷ numeral b ∷ numeral c ∷ []

-- ---- entry = str("descr") s ":" s str("<f8") | str("fortran_order") s ":" s "False" | str("shape") s ":" s shape
unfoldable pub after_key : Key → List ℕ → List ℕ
unfolding quoted
after_key Descr text = quoted (bytes "descr") text
after_key FortranOrder text = quoted (bytes "fortran_order") text
after_key Shape text = quoted (bytes "shape") text
after_key Other text = []

unfoldable pub key_at : List ℕ → Key
unfolding after_key
key_at text = cond (found (after_key Descr text)) Descr (cond (found (after_key FortranOrder text)) FortranOrder (cond (found (after_key Shape text)) Shape Other))

unfoldable pub value_at : List ℕ → List ℕ
unfolding past expect after_key key_at
value_at text = past Spacing (expect (code ":") (past Spacing (after_key (key_at text) text)))

unfoldable pub after_value : Key → List ℕ → List ℕ
unfolding quoted literal after_shape
after_value Descr text = quoted (bytes "<f8") text
after_value FortranOrder text = literal (bytes "False") text
after_value Shape text = after_shape text
after_value Other text = []

unfoldable pub after_entry : List ℕ → List ℕ
unfolding key_at value_at after_value
after_entry text = after_value (key_at text) (value_at text)

-- ---- header = (space | tab)* "{" s entry s "," s entry s "," s entry s [ "," s ] "}" s
unfoldable pub first_entry : List ℕ → List ℕ
unfolding past expect
first_entry text = past Spacing (expect (code "{") (past Blank text))

unfoldable pub next_entry : List ℕ → List ℕ
unfolding past expect after_entry
next_entry text = past Spacing (expect (code ",") (past Spacing (after_entry text)))

unfoldable pub after_comma : List ℕ → List ℕ
unfolding past is_at expect
after_comma text = cond (is_at (code ",") text) (past Spacing (expect (code ",") text)) text

-- "}" s, and with it the text ends
unfoldable pub closes : List ℕ → Bool
unfolding past is_at expect
closes text = is_at (code "}") text && not (found (past Spacing (expect (code "}") text)))

-- the three entries have three keys
abbrev pub is_same : Key → Key → Bool
is_same Descr Descr = true
is_same FortranOrder FortranOrder = true
is_same Shape Shape = true
is_same Other Other = true
is_same _ _ = false

abbrev pub each_once : Key → Key → Key → Bool
each_once j k l = not (is_same j k) && not (is_same j l) && not (is_same k l)

unfoldable pub is_header : List ℕ → Bool
unfolding past key_at after_entry first_entry next_entry after_comma closes
is_header text =
    let a = first_entry text in
    let b = next_entry a in
    let c = next_entry b in
    each_once (key_at a) (key_at b) (key_at c) && closes (after_comma (past Spacing (after_entry c)))

-- the lengths stand in the entry that has the key "shape"
unfoldable pub shape_entry : List ℕ → List ℕ
unfolding key_at first_entry next_entry
shape_entry text =
    let a = first_entry text in
    let b = next_entry a in
    cond (is_same (key_at a) Shape) a (cond (is_same (key_at b) Shape) b (next_entry b))

unfoldable pub lengths_of : List ℕ → List ℕ
unfolding value_at lengths_in shape_entry
lengths_of text = lengths_in (value_at (shape_entry text))
