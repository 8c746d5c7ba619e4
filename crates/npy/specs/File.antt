-- A file, as NumPy's format description has it: "the first 6 bytes are a magic string: exactly \x93NUMPY", two bytes of version, "the next 2 bytes form a little-endian unsigned short int: the length of the header data", the header, the data. Document 02: version 1.0; "any other file, bytes missing or left over included" is none.
use Rattle.std.specs.Prelude.{ℕ, ◌+◌, ◌-◌, ◌*◌, ◌/◌, ◌%◌, ◌^◌, max, Bool, ◌&&◌, cond, List, [], ◌∷◌, ◌++◌, eqb, ltb, leb, length, get_or, take, drop, replicate}
use Prim.Native.Char.{code}
use Rattle.prefilter.specs.Volume.{count_of}
use Rattle.text.specs.Text.{bytes, literal, found}
use Rattle.words.specs.Words.{bytes_of, words_of, all_bytes}
use Rattle.npy.specs.Header.{is_header, lengths_of}

-- ---- the reader's side
-- the magic string, and version 1.0
abbrev pub magic : List ℕ
magic = 147 ∷ (bytes "NUMPY" ++ (1 ∷ 0 ∷ []))

-- where the header's text begins
abbrev pub text_start : ℕ
text_start = 10

abbrev pub text_length : List ℕ → ℕ
text_length file = get_or file 8 0 + 256 * get_or file 9 0

abbrev pub text_of : List ℕ → List ℕ
text_of file = take (text_length file) (drop text_start file)

abbrev pub data_of : List ℕ → List ℕ
data_of file = drop (text_start + text_length file) file

unfoldable pub dims_of : List ℕ → List ℕ
unfolding lengths_of
dims_of file = lengths_of (text_of file)

-- NumPy's own limits: its reader refuses a longer header, and lengths that without the zeros among them have a larger product
abbrev pub longest_text : ℕ
longest_text = 10000

abbrev pub largest_span : ℕ
largest_span = 2 ^ 60

abbrev pub span_of : List ℕ → ℕ
span_of d = max 1 (get_or d 0 0) * (max 1 (get_or d 1 0) * max 1 (get_or d 2 0))

-- the header's text is whole, and is one
unfoldable pub has_header : List ℕ → Bool
unfolding literal is_header
has_header file = found (literal magic file) && (leb (text_length file) longest_text && (leb (text_start + text_length file) (length file) && is_header (text_of file)))

-- the data is as long as the lengths say
unfoldable pub has_data : List ℕ → Bool
unfolding dims_of
has_data file = ltb (span_of (dims_of file)) largest_span && eqb (length (data_of file)) (count_of (dims_of file) * 8)

unfoldable pub is_npy : List ℕ → Bool
unfolding has_header has_data
is_npy file = has_header file && has_data file

-- its voxels, as bits
unfoldable pub voxels_of : List ℕ → List ℕ
unfolding dims_of words_of
voxels_of file = words_of 8 (count_of (dims_of file)) (data_of file)

-- ---- the writer's side
-- "plain decimal lengths", of numbers below 10,000
abbrev pub digit : ℕ → ℕ
digit n = code "0" + n % 10

abbrev pub place_of : ℕ → ℕ → List ℕ
place_of n p = cond (leb p n) (digit (n / p) ∷ []) []

unfoldable pub decimal : ℕ → List ℕ
decimal n = place_of n 1000 ++ (place_of n 100 ++ (place_of n 10 ++ (digit n ∷ [])))

-- "{'descr': '<f8', 'fortran_order': False, 'shape': (a, b, c), }"
abbrev pub entries : List ℕ
entries = bytes "{'descr': '<f8', 'fortran_order': False, 'shape': ("

unfoldable pub written_text : List ℕ → List ℕ
unfolding decimal
written_text d = entries ++ (decimal (get_or d 0 0) ++ (bytes ", " ++ (decimal (get_or d 1 0) ++ (bytes ", " ++ (decimal (get_or d 2 0) ++ bytes "), }")))))

-- "padded with the fewest spaces and a newline so that the data starts at a multiple of 64"
abbrev pub alignment : ℕ
alignment = 64

abbrev pub spaces_after : List ℕ → ℕ
spaces_after text = (alignment - (text_start + length text + 1) % alignment) % alignment

abbrev pub spaces : ℕ → List ℕ
spaces n = replicate n (code " ")

abbrev pub padded : List ℕ → List ℕ
padded text = text ++ (spaces (spaces_after text) ++ bytes "\n")

unfoldable pub written_header : List ℕ → List ℕ
unfolding written_text bytes_of
written_header d = let text = padded (written_text d) in magic ++ (bytes_of 2 (length text) ++ text)

-- the file of a volume
unfoldable pub written : List ℕ → List ℕ → List ℕ
unfolding written_header all_bytes
written d voxels = written_header d ++ all_bytes 8 voxels
