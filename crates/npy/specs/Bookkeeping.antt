-- What the reader has found behind the header, and what the writer puts.
use Rattle.std.specs.Prelude.{ℕ, ◌+◌, ◌≤◌, Option, Some, None, Result, Ok, Err, cond, List, ◌++◌, length, get_or}
use Rattle.text.specs.Text.{bytes}
use Rattle.npy.specs.Header.{is_header, lengths_of}
use Rattle.npy.specs.File.{text_start, text_length, dims_of, has_header, is_npy, decimal}

-- the lengths of a header, or what a text that is none says of them
abbrev pub header_in : List ℕ → Result (List ℕ) (List ℕ)
header_in text = cond (is_header text) (Ok (lengths_of text)) (Err (lengths_of text))

-- those of a file whose header is whole, and of a file of the kind
abbrev pub dims_in_header : List ℕ → Option (List ℕ)
dims_in_header file = cond (has_header file) (Some (dims_of file)) None

abbrev pub dims_in_file : List ℕ → Option (List ℕ)
dims_in_file file = cond (is_npy file) (Some (dims_of file)) None

-- the file goes on at least to the end of its header
abbrev pub Headed : List ℕ → Type 0
Headed file = text_start + text_length file ≤ length file

-- the lengths as the writer puts them, a comma and a space between
abbrev pub written_lengths : List ℕ → List ℕ
written_lengths d = decimal (get_or d 0 0) ++ (bytes ", " ++ (decimal (get_or d 1 0) ++ (bytes ", " ++ decimal (get_or d 2 0))))
