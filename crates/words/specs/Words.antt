-- Words, each as so many bytes with the lowest byte first (little-endian), as the files .npy and .nii hold them.
use Rattle.std.specs.Prelude.{ℕ, zero, suc, ◌+◌, ◌*◌, ◌/◌, ◌%◌, ◌<◌, List, [], ◌∷◌, ◌++◌, length, get_or, take, drop}

-- the word that these bytes write
unfoldable pub word_of : List ℕ → ℕ
word_of [] = 0
word_of (b ∷ bs) = b + 256 * word_of bs

-- a word as n bytes
unfoldable pub bytes_of : ℕ → ℕ → List ℕ
bytes_of zero word = []
bytes_of (suc n) word = word % 256 ∷ bytes_of n (word / 256)

-- n words of so many bytes each, read one after the other
unfoldable pub words_of : ℕ → ℕ → List ℕ → List ℕ
unfolding word_of
words_of width zero bytes = []
words_of width (suc n) bytes = word_of (take width bytes) ∷ words_of width n (drop width bytes)

-- words, each as so many bytes, one after the other
unfoldable pub all_bytes : ℕ → List ℕ → List ℕ
unfolding bytes_of
all_bytes width [] = []
all_bytes width (word ∷ words) = bytes_of width word ++ all_bytes width words

-- each number of a list is below a bound: 256 for bytes
abbrev pub Below : ℕ → List ℕ → Type 0
Below m l = (i : ℕ) → i < length l → get_or l i 0 < m
