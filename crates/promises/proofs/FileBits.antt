-- The bits of a file's voxels: a file that is resampled has no NaN's, since refusal 8 would have met the entry; so what the entry is lent has the file's bits.
use Prim.Native.Nat.{ℕ, zero, suc, ◌+◌, ◌^◌, ◌<◌}
use native.Mathlib.Nat.{not-suc-le-zero, le_of_suc-le-suc}
use mathlib.Core.Path.{◌≡◌, refl, sym, ap, ◌∙◌, subst}
use mathlib.Core.Bool.{Bool, true, false, not}
use mathlib.Core.List.{List, [], ◌∷◌}
use lib.Dec.{T}
use lib.ListN.{length, get_or, length-map}
use lib.Ieee.{Float, nan, inf, fin, binary64, fits, is_nan, of_bits, to_bits}
use lib.Ieee.Scale.{finite}
use lib.Ieee.Bits.{nan_bits_is, of_bits-fits, to_bits-of_bits}
use Rattle.words.specs.Words.{Below}
use Rattle.words.proofs.Numbers.{below_drop, words_below}
use Rattle.prefilter.specs.Volume.{count_of}
use Rattle.request.specs.declared.Request.{Request}
use Rattle.npy.specs.File.{text_start, text_length, data_of, dims_of, is_npy, voxels_of}
use Rattle.npy.proofs.Verdicts.{read_clear}
use Rattle.npy.proofs.Files.{npy_has}
use Rattle.promises.specs.Entries.{Entry}
use Rattle.promises.specs.Moves.{F64s}
use Rattle.promises.specs.Filings.{reading}
use Rattle.promises.specs.Files.{volume_of, NoNans, Goes}
use Rattle.promises.proofs.WholeRequest.{not-wild}
use Rattle.promises.proofs.Files.{file_success_leaves}
use Rattle.promises.proofs.FileToFile.{admits}

-- ---- the voxels of words
volume_at : (words : List ℕ) (i : ℕ) → i < length words → get_or (volume_of words) i nan ≡ of_bits binary64 (get_or words i 0)
volume_at [] i h = absurd (not-suc-le-zero h)
volume_at (w ∷ ws) zero h = refl
volume_at (w ∷ ws) (suc i) h = volume_at ws i (le_of_suc-le-suc h)

pub volume_f64 : (words : List ℕ) → F64s (volume_of words)
volume_f64 words m l =
    let inside : m < length words = subst (λ (n : ℕ). m < n) (length-map words (of_bits binary64)) l in
    subst (λ (v : Float). T (fits binary64 v)) (sym (volume_at words m inside)) (of_bits-fits binary64 (get_or words m 0))

-- ---- the words of a file
voxels_below : (file : List ℕ) → is_npy file ≡ true → Below 256 file → Below (2 ^ 64) (voxels_of file)
unfolding voxels_of
voxels_below file npy bytes = words_below 8 (count_of (dims_of file)) (data_of file) (below_drop 256 (text_start + text_length file) file bytes) (npy_has file npy).1

a_number : (v : Float) → T (finite v) → is_nan v ≡ false
unfolding is_nan
a_number nan t = absurd t
a_number (inf s) t = refl
a_number (fin s m e) t = refl

module _ {e : Entry} {r : Request} {from to codes : List ℕ} (g : Goes e r from to codes) where
  no_nan_at : (i : ℕ) → i < length (voxels_of from) → is_nan (of_bits binary64 (get_or (voxels_of from) i 0)) ≡ false
  no_nan_at i l =
      let lent : i < length (volume_of (voxels_of from)) = subst (λ (n : ℕ). i < n) (sym (length-map (voxels_of from) (of_bits binary64))) l in
      ap is_nan (sym (volume_at (voxels_of from) i l)) ∙ a_number (get_or (volume_of (voxels_of from)) i nan) (not-wild (volume_of (voxels_of from)) (admits g.resamples).2 i lent)

  pub file_no_nan : NoNans (voxels_of from)
  file_no_nan i l = nan_bits_is binary64 (get_or (voxels_of from) i 0) ∙ no_nan_at i l

  pub file_bits : Below 256 from → (i : ℕ) → i < length (voxels_of from) → to_bits binary64 (get_or (volume_of (voxels_of from)) i nan) ≡ get_or (voxels_of from) i 0
  file_bits bytes i l =
      let small = voxels_below from (read_clear from (length g.lent.volume) (file_success_leaves (reading from g.lent.volume) g.resamples.read).0).0 bytes i l in
      ap (to_bits binary64) (volume_at (voxels_of from) i l) ∙ to_bits-of_bits binary64 (get_or (voxels_of from) i 0) small (subst (λ (b : Bool). T (not b)) (sym (no_nan_at i l)) tt)
