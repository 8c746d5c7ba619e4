-- The library reads and writes words of eight bytes as specs/ has it.
use Prim.Native.Nat.{ℕ, zero, suc, ◌+◌, ◌*◌, ◌<◌}
use native.Mathlib.Nat.{not-suc-le-zero, le_of_suc-le-suc, zero-mul, suc-mul, div-div-eq-div-mul}
use native.Mathlib.Omega.{arith}
use mathlib.Core.Path.{◌≡◌, sym, ap, ◌∙◌}
use mathlib.Core.List.{List, [], ◌∷◌}
use lib.ListN.{length, get_or, take, drop}
use lib.Seq.{drop-drop}
use Rattle.std.specs.Int.{w64, to_le_bytes, from_le_bytes}
use Rattle.std.specs.Simd.{first_chunks}
use Rattle.words.specs.Words.{word_of, bytes_of}

pub word_read : (l : List ℕ) → length l ≡ 8 → from_le_bytes w64 l ≡ word_of l
unfolding word_of
word_read (a ∷ b ∷ c ∷ d ∷ e ∷ f ∷ g ∷ h ∷ []) long = omega arith
word_read l long = absurd (omega arith)

pub word_written : (word : ℕ) → to_le_bytes w64 word ≡ bytes_of 8 word
unfolding bytes_of
word_written word = sym (simp div-div-eq-div-mul)

pub chunk_there : {A : Type 0} (d : List A) (width n : ℕ) (l : List A) (i : ℕ) → i < n → get_or (first_chunks width n l) i d ≡ take width (drop (i * width) l)
chunk_there d width zero l i h = absurd (not-suc-le-zero h)
chunk_there d width (suc n) l zero h = ap (λ (k : ℕ). take width (drop k l)) (sym (zero-mul width))
chunk_there d width (suc n) l (suc i) h =
    let here : i * width + width ≡ suc i * width = sym (suc-mul i width) in
    chunk_there d width n (drop width l) i (le_of_suc-le-suc h) ∙ ap (take width) (drop-drop (i * width) width l) ∙ ap (λ (k : ℕ). take width (drop k l)) (omega arith)
