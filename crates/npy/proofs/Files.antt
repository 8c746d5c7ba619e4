-- What the reader finds in a file that is put together of a text and data, and what it asks of a file.
use Prim.Native.Nat.{ℕ, ◌+◌, ◌*◌, ◌≤◌, ◌<◌}
use native.Mathlib.Omega.{arith}
use mathlib.Core.Path.{◌≡◌, refl, sym, ◌∙◌}
use mathlib.Core.Bool.{Bool, true, false, ◌&&◌, true≢false}
use mathlib.Core.List.{List, [], ◌∷◌, ◌++◌}
use lib.Dec.{eqb, ltb, leb}
use lib.ListN.{length, get_or, length-append}
use lib.Seq.{take_at, drop_at}
use borrow.Author.Tests.{le-leb, leb-true, lt-ltb, eq-eqb, eqb-true}
use Rattle.prefilter.specs.Volume.{count_of}
use Rattle.text.specs.Text.{literal, found}
use Rattle.words.specs.Words.{bytes_of}
use Rattle.words.proofs.Numbers.{length-bytes}
use Rattle.npy.specs.Header.{is_header, lengths_of, lengths_in}
use Rattle.npy.specs.File.{magic, text_start, text_length, text_of, data_of, dims_of, longest_text, largest_span, span_of, is_npy}

-- ---- a file of a text and data
abbrev pub front_of : List ℕ → List ℕ
front_of text = magic ++ (bytes_of 2 (length text) ++ text)

pub front_length : (text : List ℕ) → length (front_of text) ≡ text_start + length text
front_length text = length-append magic (bytes_of 2 (length text) ++ text) ∙ omega (arith, length-append (bytes_of 2 (length text)) text, length-bytes 2 (length text))

-- the reader finds the magic string, the text and the data
pub made-magic : (text rest : List ℕ) → found (literal magic (front_of text ++ rest)) ≡ true
unfolding literal bytes_of
made-magic text rest = refl

module _ (text rest : List ℕ) (short : length text < 65536) where
  pub made-length : text_length (front_of text ++ rest) ≡ length text
  unfolding bytes_of
  made-length = omega arith

  pub made_text : text_of (front_of text ++ rest) ≡ text
  unfolding bytes_of
  made_text = take_at text rest (text_length (front_of text ++ rest)) (sym made-length)

  pub made_data : data_of (front_of text ++ rest) ≡ rest
  made_data = drop_at (front_of text) rest (text_start + text_length (front_of text ++ rest)) (omega (arith, front_length text, made-length))

-- ---- a file has three lengths
pub three_dims : (file : List ℕ) → get_or (dims_of file) 0 0 ∷ get_or (dims_of file) 1 0 ∷ get_or (dims_of file) 2 0 ∷ [] ≡ dims_of file
unfolding dims_of lengths_of lengths_in
three_dims file = refl

-- ---- what makes a file one of NumPy's, and what such a file has
pub both : (a b : Bool) → (a && b) ≡ true → (a ≡ true) × (b ≡ true)
both true b e = (refl, e)
both false b e = absurd (true≢false (sym e))

-- of the six tests of a file, the third and the last
tests : (m s w h p e : Bool) → (m && (s && (w && h)) && (p && e)) ≡ true → (w ≡ true) × (e ≡ true)
tests m s w h p e t =
    let parts = both (m && (s && (w && h))) (p && e) t in
    ((both w h (both s (w && h) (both m (s && (w && h)) parts.0).1).1).0, (both p e parts.1).1)

module _ (file : List ℕ) where
  pub npy_by :
      found (literal magic file) ≡ true → text_length file ≤ longest_text → text_start + text_length file ≤ length file → is_header (text_of file) ≡ true → span_of (dims_of file) < largest_span →
      length (data_of file) ≡ count_of (dims_of file) * 8 → is_npy file ≡ true
  unfolding is_npy
  npy_by m s w h p e = λ i. (m i && (le-leb (text_length file) longest_text s i && (le-leb (text_start + text_length file) (length file) w i && h i))) && (lt-ltb (span_of (dims_of file)) largest_span p i && eq-eqb (length (data_of file)) (count_of (dims_of file) * 8) e i)

  pub npy_has : is_npy file ≡ true → (text_start + text_length file ≤ length file) × (length (data_of file) ≡ count_of (dims_of file) * 8)
  unfolding is_npy
  npy_has e =
      let there = tests (found (literal magic file)) (leb (text_length file) longest_text) (leb (text_start + text_length file) (length file)) (is_header (text_of file)) (ltb (span_of (dims_of file)) largest_span) (eqb (length (data_of file)) (count_of (dims_of file) * 8)) e in
      (leb-true (text_start + text_length file) (length file) there.0, eqb-true (length (data_of file)) (count_of (dims_of file) * 8) there.1)
