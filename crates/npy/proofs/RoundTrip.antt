-- There and back: what the writer makes is a file of NumPy's, and the reader gives back what was written. A file read and written again is the same file exactly if its header is the writer's.
use Prim.Native.Nat.{ℕ, ◌+◌, ◌*◌, ◌^◌, ◌≤◌, ◌<◌, max}
use native.Mathlib.Nat.{mul-le-mul}
use native.Mathlib.Omega.{arith}
use mathlib.Core.Path.{◌≡◌, refl, sym, ap, ◌∙◌, subst}
use mathlib.Core.Bool.{true}
use mathlib.Core.Logic.{◌↔◌}
use mathlib.Core.List.{List, [], ◌∷◌, ◌++◌}
use lib.Dec.{lit<}
use lib.ListN.{length, get_or, take, length-append, length-drop, take-append-drop}
use lib.Seq.{take_at}
use Rattle.prefilter.specs.Volume.{count_of}
use Rattle.request.specs.Bookkeeping.{Lengths}
use Rattle.text.specs.Text.{literal, found}
use Rattle.words.specs.Words.{words_of, all_bytes, Below}
use Rattle.words.proofs.Numbers.{below_drop, length_all, words_back, bytes_back}
use Rattle.npy.specs.Header.{is_header, lengths_of}
use Rattle.npy.specs.File.{magic, text_start, text_length, text_of, data_of, dims_of, span_of, largest_span, is_npy, voxels_of, written_text, padded, written_header, written}
use Rattle.npy.proofs.Written.{text_padded, written-length}
use Rattle.npy.proofs.WrittenText.{Plains, text_header, text_lengths}
use Rattle.npy.proofs.Files.{front_of, made-magic, made-length, made_text, made_data, npy_by, npy_has}

-- ---- the definitions, as equations
header_is : (d : List ℕ) → written_header d ≡ front_of (padded (written_text d))
unfolding written_header
header_is d = refl

written_is : (d v : List ℕ) → written d v ≡ written_header d ++ all_bytes 8 v
unfolding written
written_is d v = refl

dims_are : (file : List ℕ) → dims_of file ≡ lengths_of (text_of file)
unfolding dims_of
dims_are file = refl

voxels_are : (file : List ℕ) → voxels_of file ≡ words_of 8 (count_of (dims_of file)) (data_of file)
unfolding voxels_of
voxels_are file = refl

-- ---- three lengths
three : (d : List ℕ) → length d ≡ 3 → get_or d 0 0 ∷ get_or d 1 0 ∷ get_or d 2 0 ∷ [] ≡ d
three [] e = absurd (omega arith)
three (a ∷ []) e = absurd (omega arith)
three (a ∷ b ∷ []) e = absurd (omega arith)
three (a ∷ b ∷ c ∷ []) e = refl
three (a ∷ b ∷ c ∷ x ∷ l) e = absurd (omega arith)

span_small : (d : List ℕ) → Lengths d → span_of d < largest_span
span_small d h =
    let low : (i : ℕ) → i < 3 → max 1 (get_or d i 0) ≤ 4096 = λ i l. omega (arith, h i l) in
    let small = mul-le-mul (low 0 (lit< tt)) (mul-le-mul (low 1 (lit< tt)) (low 2 (lit< tt))) in
    omega arith

-- ---- a written file, read
module _ (d v : List ℕ) where
  abbrev text : List ℕ
  text = padded (written_text d)

  made : written d v ≡ front_of text ++ all_bytes 8 v
  made = written_is d v ∙ ap (λ (l : List ℕ). l ++ all_bytes 8 v) (header_is d)

  short : length text < 65536
  short = omega (arith, text_padded d)

  written_data : data_of (written d v) ≡ all_bytes 8 v
  written_data = ap data_of made ∙ made_data text (all_bytes 8 v) short

  written-text : text_of (written d v) ≡ text
  written-text = ap text_of made ∙ made_text text (all_bytes 8 v) short

  text_size : text_length (written d v) ≡ 118
  text_size = ap text_length made ∙ made-length text (all_bytes 8 v) short ∙ text_padded d

module _ (d v : List ℕ) (lengths : Lengths d) (axes : length d ≡ 3) where
  plains : Plains d
  plains i h = omega (arith, lengths i h)

  pub written_dims : dims_of (written d v) ≡ d
  written_dims = dims_are (written d v) ∙ ap lengths_of (written-text d v) ∙ text_lengths d plains ∙ three d axes

  pub written_is_npy : count_of d ≡ length v → is_npy (written d v) ≡ true
  written_is_npy count =
      npy_by
      (written d v)
      (ap (λ (l : List ℕ). found (literal magic l)) (made d v) ∙ made-magic (padded (written_text d)) (all_bytes 8 v))
      (omega (arith, text_size d v))
      (omega (arith, text_size d v, written-length d v))
      (ap is_header (written-text d v) ∙ text_header d plains)
      (subst (λ (l : List ℕ). span_of l < largest_span) (sym written_dims) (span_small d lengths))
      (ap length (written_data d v) ∙ length_all 8 v ∙ ap (λ (n : ℕ). n * 8) (sym count ∙ ap count_of (sym written_dims)))

  pub written_voxels : count_of d ≡ length v → Below (2 ^ 64) v → voxels_of (written d v) ≡ v
  written_voxels count below = voxels_are (written d v) ∙ ap (words_of 8 (count_of (dims_of (written d v)))) (written_data d v) ∙ ap (λ (n : ℕ). words_of 8 n (all_bytes 8 v)) (ap count_of written_dims ∙ count) ∙ words_back 8 v below

-- ---- a file, read and written again
module _ (file : List ℕ) (npy : is_npy file ≡ true) (below : Below 256 file) where
  abbrev place : ℕ
  place = text_start + text_length file

  abbrev header : List ℕ
  header = written_header (dims_of file)

  -- the data comes back as it was
  again : written (dims_of file) (voxels_of file) ≡ header ++ data_of file
  again =
      let bytes : all_bytes 8 (voxels_of file) ≡ data_of file = ap (all_bytes 8) (voxels_are file) ∙ bytes_back 8 (count_of (dims_of file)) (data_of file) (below_drop 256 place file below) (npy_has file npy).1 in
      written_is (dims_of file) (voxels_of file) ∙ ap (λ (l : List ℕ). header ++ l) bytes

  pub rewritten : (written (dims_of file) (voxels_of file) ≡ file) ↔ (take (text_start + text_length file) file ≡ written_header (dims_of file))
  rewritten = (only, whenever)
    where
      only : written (dims_of file) (voxels_of file) ≡ file → take place file ≡ header
      only e =
          let same : header ++ data_of file ≡ file = sym again ∙ e in
          let size : length header ≡ place = omega (arith, npy_has file npy, length-append header (data_of file), ap length same, length-drop place file) in
          ap (take place) (sym same) ∙ take_at header (data_of file) place size

      whenever : take place file ≡ header → written (dims_of file) (voxels_of file) ≡ file
      whenever e = again ∙ ap (λ (l : List ℕ). l ++ data_of file) (sym e) ∙ take-append-drop place file
