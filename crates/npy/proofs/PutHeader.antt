-- The writer's parts, put one behind the other, are its header.
use Prim.Native.Nat.{ℕ, ◌+◌, ◌-◌}
use Prim.Native.Char.{code}
use native.Mathlib.Omega.{arith}
use mathlib.Core.Path.{◌≡◌, sym, ap, ◌∙◌}
use mathlib.Core.List.{List, [], ◌∷◌, ◌++◌, append_assoc}
use lib.ListN.{length, length-append}
use Rattle.text.specs.Text.{bytes}
use Rattle.words.specs.Words.{bytes_of}
use Rattle.npy.specs.File.{magic, entries, written_text, spaces, padded, written_header}
use Rattle.npy.specs.Bookkeeping.{written_lengths}
use Rattle.npy.proofs.Written.{spaces-after, text_padded}

module _ (d : List ℕ) where
  text_is : written_text d ≡ entries ++ (written_lengths d ++ bytes "), }")
  unfolding written_text
  text_is = ap (λ (t : List ℕ). entries ++ t) (sym (simp append_assoc))

  pub text_long : length (written_text d) ≡ 51 + length (written_lengths d) + 4
  text_long = ap length text_is ∙ length-append entries (written_lengths d ++ bytes "), }") ∙ omega (arith, length-append (written_lengths d) (bytes "), }"))

  -- k spaces, as many as are needed
  module _ (k : ℕ) (few : k ≡ 117 - length (written_text d)) where
    abbrev tail : List ℕ
    tail = spaces k ++ (code "\n" ∷ [])

    pub header_put : (magic ++ (118 ∷ 0 ∷ [])) ++ (entries ++ (written_lengths d ++ (bytes "), }" ++ tail))) ≡ written_header d
    unfolding written_header bytes_of
    header_put =
        let text : padded (written_text d) ≡ entries ++ (written_lengths d ++ (bytes "), }" ++ tail)) =
        (λ i. text_is i ++ (spaces ((spaces-after d ∙ sym few) i) ++ bytes "\n")) ∙ append_assoc entries (written_lengths d ++ bytes "), }") tail ∙ ap (λ (t : List ℕ). entries ++ t) (append_assoc (written_lengths d) (bytes "), }") tail) in
        ap (λ (t : List ℕ). magic ++ ((118 ∷ 0 ∷ []) ++ t)) (sym text) ∙ sym (ap (λ (n : ℕ). magic ++ (bytes_of 2 n ++ padded (written_text d))) (text_padded d))
