-- Demand 3 from file to file: a whole shift of a file moves its voxels exactly (as numbers), and the opposite shift of the file that comes out brings them back.
use Prim.Native.Nat.{ℕ, ◌≤◌}
use mathlib.Core.Path.{◌≡◌, refl, sym, ap, ◌∙◌, subst}
use mathlib.Core.List.{List, [], ◌∷◌}
use lib.IntN.{ℤ, neg_ℤ}
use lib.Dec.{T}
use lib.ListN.{length, get_or}
use lib.Ieee.{Float, binary64, fits}
use Rattle.border.specs.declared.BorderMode.TheVariants.{Constant}
use Rattle.prefilter.specs.Volume.{count_of}
use Rattle.request.specs.declared.Request.{Request}
use Rattle.refusal.specs.Refusals.{first, number_in}
use Rattle.npy.specs.File.{dims_of, voxels_of}
use Rattle.npy.specs.Call.{NpyCall, length_checks, read_call}
use Rattle.npy.proofs.Files.{three_dims}
use Rattle.promises.specs.Entries.{shifting, call, output_dims}
use Rattle.promises.specs.Moves.{Whole, Moved, Returned}
use Rattle.promises.specs.Files.{volume_of, Lent, call_on, resampled, Goes}
use Rattle.promises.proofs.Given.{success_exactly}
use Rattle.promises.proofs.Moving.{whole_shift_moves}
use Rattle.promises.proofs.Returning.{returns, shift_back}
use Rattle.promises.proofs.Files.{lengths_pass, reads_voxels}
use Rattle.promises.proofs.FileToFile.{entry_done, entry_succeeds, admits, file_read_again, entry_marks}
use Rattle.promises.proofs.FileBits.{volume_f64}
use Rattle.std.specs.Prelude.{Ok}

module _ {r : Request} {from to codes : List ℕ} (g : Goes shifting r from to codes) where
  pub file_shift : {fill : Float} {s : ℕ → ℤ} → r.mode ≡ Constant fill → r.order ≤ 1 → Whole r s → Moved (dims_of from) s fill (volume_of (voxels_of from)) (volume_of (voxels_of to)) codes
  file_shift {fill} {s} constant low whole =
      let input = volume_of (voxels_of from) in
      let l = g.lent in
      let clear = (success_exactly shifting r input l.output l.coverage l.work).0 (entry_done g.resamples) in
      let h = (whole_shift_moves r input l.output l.coverage l.work fill s constant low whole (volume_f64 (voxels_of from)) (λ n _. clear n)).1 in
      let dims = g.resamples.asked in
      let after = sym (file_read_again g).2 in
      let marks = entry_marks g in
      subst (λ (X : Type 0). X) (λ t. Moved (dims t) s fill input (after t) (marks t)) h

  -- the lengths stay
  pub shift_dims : dims_of to ≡ dims_of from
  shift_dims = (file_read_again g).1 ∙ ap (λ (d : List ℕ). get_or d 0 0 ∷ get_or d 1 0 ∷ get_or d 2 0 ∷ []) g.resamples.asked ∙ three_dims from

pub file_shift_back :
    {r back : Request} {from between to codes codes' : List ℕ} {fill : Float} {s : ℕ → ℤ} →
    Goes shifting r from between codes → r.mode ≡ Constant fill → r.order ≤ 1 → Whole r s →
    Goes shifting back between to codes' → back.mode ≡ Constant fill → back.order ≤ 1 → Whole back (λ i. neg_ℤ (s i)) →
    Returned (dims_of from) s fill (volume_of (voxels_of from)) (volume_of (voxels_of to))
file_shift_back {between = between} {to} {codes' = codes'} {fill} {s} g constant low whole g' constant' low' whole' =
    returns (dims_of _) s fill (file_shift g constant low whole)
    (subst (λ (d : List ℕ). Moved d (λ i. neg_ℤ (s i)) fill (volume_of (voxels_of between)) (volume_of (voxels_of to)) codes') (shift_dims g) (file_shift g' constant' low' whole'))

-- that the way back is not refused is part of it: lent buffers of the right lengths, the file that came out is read and shifted back
pub file_shift_again :
    {r : Request} {from to codes : List ℕ} {fill : Float} {s : ℕ → ℤ} →
    Goes shifting r from to codes → r.mode ≡ Constant fill → r.order ≤ 1 → Whole r s → T (fits binary64 fill) →
    (back : Request) (lent : Lent) → back.dims ≡ dims_of to → back.mode ≡ Constant fill → back.order ≤ 1 → Whole back (λ i. neg_ℤ (s i)) →
    length lent.volume ≡ count_of (dims_of to) → length lent.output ≡ count_of (dims_of to) → length lent.coverage ≡ count_of (dims_of to) →
    ((read_call to lent.volume).answer ≡ Ok tt) × (number_in (resampled shifting back to lent).answer ≡ 0)
file_shift_again {r} {from} {to} {codes} {fill} {s} g constant low whole fill64 back lent dims constant' low' whole' volume output coverage =
    let input = volume_of (voxels_of from) in
    let l = g.lent in
    let again = file_read_again g in
    let clear = (success_exactly shifting r input l.output l.coverage l.work).0 (entry_done g.resamples) in
    let p = (entry_succeeds g.resamples).passes in
    let same = shift_dims g ∙ sym g.resamples.asked in
    let count = ap count_of same in
    let h = (shift_back r input l.output l.coverage l.work fill s constant low whole (volume_f64 (voxels_of from)) fill64 (λ n _. clear n) back lent.output lent.coverage lent.work (dims ∙ same) constant' low' whole' (output ∙ count ∙ sym p.values) (coverage ∙ count ∙ sym p.codes)).0 in
    let lengths = subst (λ (d : List ℕ). first (length_checks d) ≡ Ok tt) (sym again.1) (lengths_pass (output_dims shifting r) (admits g.resamples).0 (admits g.resamples).1) in
    let read = reads_voxels to lent.volume (voxels_of to) again.0 lengths volume refl in (
      ap (λ (c : NpyCall). c.answer) read,
      ap (λ (c : NpyCall). number_in (call_on shifting back c.buffer lent).answer) read
          ∙ ap (λ (xs : List Float). number_in (call shifting back xs lent.output lent.coverage lent.work).answer) again.2 ∙ h,
    )
