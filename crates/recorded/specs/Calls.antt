-- Where the calls of a file stand: behind the pool and their number, 26 words each.
use Rattle.std.specs.Prelude.{ℕ, List, drop, length, min, slice_index}
use Rattle.answer_file.specs.Numbers.{float_of}
use Rattle.request.specs.declared.Request.{Request}
use Rattle.numbers.specs.Numbers.{request_of}

abbrev pub behind_pool : List ℕ → List ℕ
behind_pool file = drop (slice_index file 0) (drop 1 file)

-- at most as many as the file has words: those behind its end are no calls
abbrev pub number_of_calls : List ℕ → ℕ
number_of_calls file = min (slice_index (behind_pool file) 0) (length file)

abbrev pub first_call : List ℕ → List ℕ
first_call file = drop 1 (behind_pool file)

-- a number of a call that stands for any above it from 255 on
abbrev pub small : ℕ → ℕ
small word = min word 255

-- what the words of a call ask for
abbrev pub asked : List ℕ → Request
asked w = request_of
    (slice_index w 1) (slice_index w 2) (slice_index w 3)
    (float_of (slice_index w 4)) (float_of (slice_index w 5)) (float_of (slice_index w 6))
    (slice_index w 7) (small (slice_index w 9)) (small (slice_index w 10)) (float_of (slice_index w 11))
