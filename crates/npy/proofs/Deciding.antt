-- What the tests of a file come to, one after the other.
use Prim.Native.Nat.{ℕ, zero, suc, ◌+◌, ◌*◌, ◌≤◌, ◌<◌}
use native.Mathlib.Nat.{zero-add, suc-add}
use mathlib.Core.Path.{◌≡◌, refl, sym, ap, ◌∙◌}
use mathlib.Core.Logic.{dite}
use native.Mathlib.Decide.{dec_lt}
use native.Mathlib.Omega.{arith}
use mathlib.Core.Bool.{Bool, true, false, not, ◌&&◌, cond}
use Rattle.std.specs.Prelude.{Some, None, Ok, Err}
use Rattle.std.specs.Result.{result_ok}
use mathlib.Core.List.{List, [], ◌∷◌}
use lib.Dec.{eqb, ltb, leb}
use lib.ListN.{length, take, drop}
use lib.Seq.{take-nil}
use borrow.Author.Tests.{le-leb, lt-leb, leb-true}
use Rattle.prefilter.specs.Volume.{count_of}
use Rattle.text.specs.Text.{literal, found}
use Rattle.text.proofs.Texts.{some_left, none_left}
use Rattle.npy.specs.Header.{is_header, lengths_of}
use Rattle.npy.specs.File.{magic, text_start, text_length, text_of, data_of, dims_of, longest_text, largest_span, span_of, has_header, has_data, is_npy}
use Rattle.npy.specs.Bookkeeping.{header_in, Headed}
use Rattle.npy.proofs.Files.{both}

-- the text of the header, out of the file up to its end
pub from_prefix : (a n : ℕ) (l : List ℕ) → drop a (take (a + n) l) ≡ take n (drop a l)
from_prefix zero n l = ap (λ (k : ℕ). take k l) (zero-add n)
from_prefix (suc a) n [] = ap (λ (l : List ℕ). drop (suc a) l) (take-nil (suc a + n)) ∙ sym (take-nil n)
from_prefix (suc a) n (x ∷ l) = ap (λ (k : ℕ). drop (suc a) (take k (x ∷ l))) (suc-add a n) ∙ from_prefix a n l

-- a place is at the end where nothing is left
pub at_end : (t : List ℕ) (at : ℕ) → leb (length t) at ≡ not (found (drop at t))
at_end t at =
    dite
    (dec_lt at (length t))
    (λ h. simp (lt-leb (length t) at h, some_left t at h))
    (λ h. let k : length t ≤ at = omega arith in simp (le-leb (length t) at k, none_left t at k))

and_none : (t : Bool) {u : Bool} → u ≡ false → (t && u) ≡ false
and_none true e = e
and_none false e = refl

and_first : {t : Bool} (u : Bool) → t ≡ false → (t && u) ≡ false
and_first u e = ap (λ (t : Bool). t && u) e

-- ---- lengths that are given where a test holds
pub given : (t : Bool) {x y : List ℕ} → cond t (Some x) None ≡ Some y → (t ≡ true) × (x ≡ y)
given true e = (refl, cc)
given false e = cc

pub not_given : (t : Bool) (x : List ℕ) → cond t (Some x) None ≡ None → t ≡ false
not_given true x e = cc
not_given false x e = refl

pub give : {t : Bool} {x y : List ℕ} → t ≡ true → x ≡ y → Some y ≡ cond t (Some x) None
give {x = x} e f = ap Some (sym f) ∙ sym (ap (λ (t : Bool). cond t (Some x) None) e)

pub give_none : {t : Bool} (x : List ℕ) → t ≡ false → None ≡ cond t (Some x) None
give_none x e = sym (ap (λ (t : Bool). cond t (Some x) None) e)

pub of_header : (text : List ℕ) → result_ok (header_in text) ≡ cond (is_header text) (Some (lengths_of text)) None
of_header text = go (is_header text)
  where
    go : (t : Bool) → result_ok (cond t (Ok (lengths_of text)) (Err (lengths_of text))) ≡ cond t (Some (lengths_of text)) None
    go true = refl
    go false = refl

module _ (file : List ℕ) where
  abbrev has_magic : Bool
  has_magic = found (literal magic file)

  abbrev short_text : Bool
  short_text = leb (text_length file) longest_text

  abbrev has_text : Bool
  has_text = leb (text_start + text_length file) (length file)

  -- ---- the header
  pub no_magic : has_magic ≡ false → false ≡ has_header file
  unfolding has_header
  no_magic e = sym (and_first (short_text && (has_text && is_header (text_of file))) e)

  pub long_text : longest_text < text_length file → false ≡ has_header file
  unfolding has_header
  long_text h = sym (and_none has_magic (and_first (has_text && is_header (text_of file)) (lt-leb (text_length file) longest_text h)))

  pub cut_off : length file < text_start + text_length file → false ≡ has_header file
  unfolding has_header
  cut_off h = sym (and_none has_magic (and_none short_text (and_first (is_header (text_of file)) (lt-leb (text_start + text_length file) (length file) h))))

  pub header_there : has_magic ≡ true → text_length file ≤ longest_text → Headed file → is_header (text_of file) ≡ has_header file
  unfolding has_header
  header_there m s h =
      let p = le-leb (text_length file) longest_text s in
      let q = le-leb (text_start + text_length file) (length file) h in
      λ i. sym m i && (sym p i && (sym q i && is_header (text_of file)))

  pub headed : has_header file ≡ true → Headed file
  unfolding has_header
  headed e =
      let r = (both short_text (has_text && is_header (text_of file)) (both has_magic (short_text && (has_text && is_header (text_of file))) e).1).1 in
      leb-true (text_start + text_length file) (length file) (both has_text (is_header (text_of file)) r).0

  -- ---- the data
  abbrev small_span : Bool
  small_span = ltb (span_of (dims_of file)) largest_span

  pub large_span : small_span ≡ false → false ≡ has_data file
  unfolding has_data
  large_span e = sym (and_first (eqb (length (data_of file)) (count_of (dims_of file) * 8)) e)

  pub data_there : small_span ≡ true → eqb (length (data_of file)) (count_of (dims_of file) * 8) ≡ has_data file
  unfolding has_data
  data_there e = λ i. sym e i && eqb (length (data_of file)) (count_of (dims_of file) * 8)

  -- ---- both
  pub no_header : has_header file ≡ false → false ≡ is_npy file
  unfolding is_npy
  no_header e = sym (and_first (has_data file) e)

  pub by_data : has_header file ≡ true → has_data file ≡ is_npy file
  unfolding is_npy
  by_data e = λ i. sym e i && has_data file
