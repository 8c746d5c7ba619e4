-- How long what the writer makes is, and that the data of a padded text starts at a multiple of 64, behind the fewest spaces.
use Prim.Native.Nat.{ℕ, ◌+◌, ◌-◌, ◌*◌, ◌%◌, ◌≤◌}
use native.Mathlib.Omega.{arith}
use mathlib.Core.Path.{◌≡◌, ◌∙◌}
use mathlib.Core.List.{List, ◌++◌}
use lib.ListN.{length, get_or, length-append, length-replicate}
use Rattle.text.specs.Text.{bytes}
use Rattle.words.specs.Words.{all_bytes}
use Rattle.words.proofs.Numbers.{length_all}
use Rattle.npy.specs.File.{text_start, entries, decimal, written_text, spaces_after, spaces, padded, written_header, written}
use Rattle.npy.proofs.Numerals.{decimal-length}
use Rattle.npy.proofs.Files.{front_length}

-- ---- the padding, of every text
length-padded : (text : List ℕ) → length (padded text) ≡ length text + spaces_after text + 1
length-padded text =
    let n = spaces_after text in
    length-append text (spaces n ++ bytes "\n") ∙ omega (arith, length-append (spaces n) (bytes "\n"), length-replicate {A = ℕ} n 32)

-- "so that the data starts at a multiple of 64"
pub data_aligned : (text : List ℕ) → (text_start + length (padded text)) % 64 ≡ 0
data_aligned text = omega (arith, length-padded text)

-- "with the fewest spaces"
pub fewest : (text : List ℕ) (k : ℕ) → (text_start + length text + k + 1) % 64 ≡ 0 → spaces_after text ≤ k
fewest text k h = omega arith

-- ---- our text
-- 59 signs stand around the numbers
around : (a b c : List ℕ) → length (entries ++ (a ++ (bytes ", " ++ (b ++ (bytes ", " ++ (c ++ bytes "), }")))))) ≡ 59 + (length a + (length b + length c))
around a b c = simp length-append (omega arith)

numbers_length : (d : List ℕ) → length (written_text d) ≡ 59 + (length (decimal (get_or d 0 0)) + (length (decimal (get_or d 1 0)) + length (decimal (get_or d 2 0))))
unfolding written_text
numbers_length d = around (decimal (get_or d 0 0)) (decimal (get_or d 1 0)) (decimal (get_or d 2 0))

pub text-length : (d : List ℕ) → (62 ≤ length (written_text d)) × (length (written_text d) ≤ 71)
text-length d = omega (arith, numbers_length d, decimal-length (get_or d 0 0), decimal-length (get_or d 1 0), decimal-length (get_or d 2 0))

pub spaces-after : (d : List ℕ) → spaces_after (written_text d) ≡ 117 - length (written_text d)
spaces-after d = omega (arith, text-length d)

pub text_padded : (d : List ℕ) → length (padded (written_text d)) ≡ 118
text_padded d = omega (arith, length-padded (written_text d), text-length d)

pub header_length : (d : List ℕ) → length (written_header d) ≡ 128
unfolding written_header
header_length d = front_length (padded (written_text d)) ∙ omega (arith, text_padded d)

pub written-length : (d v : List ℕ) → length (written d v) ≡ 128 + length v * 8
unfolding written
written-length d v = length-append (written_header d) (all_bytes 8 v) ∙ omega (arith, header_length d, length_all 8 v)
