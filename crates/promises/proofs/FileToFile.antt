-- A file that is read, resampled by `shift` or `zoom` and written: the file that comes out is the writer's, of that entry's output; read again it is that output. "Demands 2 and 3 then hold from file to file."
use Prim.Native.Nat.{ℕ}
use mathlib.Core.Path.{◌≡◌, refl, sym, ap, ◌∙◌}
use mathlib.Core.Bool.{true, false, ◌||◌}
use mathlib.Core.List.{List}
use lib.ListN.{length, get_or, length-map}
use lib.Ieee.{Float, binary64, of_bits}
use borrow.Author.Tests.{le-ltb}
use Rattle.prefilter.specs.Volume.{count_of}
use Rattle.request.specs.declared.Request.{Request}
use Rattle.request.specs.Sizes.{needed, zoom_dims}
use Rattle.request.specs.Conditions.{bad_length, bad_lengths, zooms_slices, bad_outputs, too_large, wild_fill, some_wild}
use Rattle.lists.proofs.Somes.{some_none}
use Rattle.std.proofs.lemmas.Bool.{or_parts}
use Rattle.request.proofs.Requests.{good_lengths, good_outputs}
use Rattle.npy.specs.File.{is_npy, dims_of, voxels_of, written}
use Rattle.npy.specs.Call.{NpyCall, npy_call_of, size_of, write_call}
use Rattle.npy.proofs.RoundTrip.{written_dims, written_is_npy, written_voxels}
use Rattle.refusal.specs.Refusals.{number_in}
use Rattle.resample.specs.Call.{Call, values_of, codes_of}
use Rattle.promises.specs.Entries.{Entry, shifting, zooming, call, axes_of, output_dims}
use Rattle.promises.specs.Filings.{reading, writing}
use Rattle.promises.specs.Files.{volume_of, Lent, call_on, resampled, Resamples, Goes}
use Rattle.promises.proofs.Given.{success_exactly}
use Rattle.promises.proofs.Succeeding.{Succeeds, succeeds}
use Rattle.promises.proofs.Counted.{counted}
use Rattle.promises.proofs.Files.{file_success_leaves, lengths_pass, writes_file}
use Rattle.std.specs.Prelude.{Ok}

-- ---- what the refusals have let pass: lengths and a count that are the writer's to take, and no wild voxel
module _ (r : Request) (input output : List Float) (coverage : List ℕ) (work : List Float) where
  -- zoom's output lengths are lengths
  zoomed : zooms_slices r.dims (zoom_dims r) ≡ false → bad_outputs r.dims (zoom_dims r) ≡ false → bad_lengths (zoom_dims r) ≡ false
  unfolding bad_lengths
  zoomed slice out = some_none (λ i. bad_length (get_or (zoom_dims r) i 0)) 3 (λ i l. let g = (good_outputs r.dims (zoom_dims r) slice out i l).0 in (λ t. le-ltb (get_or (zoom_dims r) i 0) 1 g.0 t || le-ltb 4096 (get_or (zoom_dims r) i 0) g.1 t))

  admitted : (e : Entry) → number_in (call e r input output coverage work).answer ≡ 0 → (bad_lengths (output_dims e r) ≡ false) × (too_large (count_of (output_dims e r)) ≡ false) × (some_wild input ≡ false)
  unfolding bad_lengths
  admitted shifting q =
      let h = (success_exactly shifting r input output coverage work).0 q in
      let n = count_of r.dims in
      (h 3, (or_parts (too_large n) (too_large n) (or_parts (too_large n || too_large n) (too_large (needed r)) (h 6)).0).1, (or_parts (wild_fill r.mode) (some_wild input) (h 8)).1)
  admitted zooming q =
      let h = (success_exactly zooming r input output coverage work).0 q in
      let n = count_of r.dims in
      let m = count_of (zoom_dims r) in
      (zoomed (h 12) (h 5), (or_parts (too_large n) (too_large m) (or_parts (too_large n || too_large m) (too_large (needed r)) (h 6)).0).1, (or_parts (wild_fill r.mode) (some_wild input) (h 8)).1)

module _ {e : Entry} {r : Request} {from : List ℕ} {lent : Lent} {out : List ℕ} (s : Resamples e r from lent out) where
  resampled_is : resampled e r from lent ≡ call_on e r (voxels_of from) lent
  resampled_is = ap (λ (words : List ℕ). call_on e r words lent) (file_success_leaves (reading from lent.volume) s.read).1

  pub entry_done : number_in (call_on e r (voxels_of from) lent).answer ≡ 0
  entry_done = ap (λ (c : Call). number_in c.answer) (sym resampled_is) ∙ s.done

  pub entry_succeeds : Succeeds e r (volume_of (voxels_of from)) lent.output lent.coverage lent.work
  entry_succeeds = succeeds r (volume_of (voxels_of from)) lent.output lent.coverage lent.work e entry_done

  out_long : length out ≡ count_of (output_dims e r)
  out_long = sym (length-map out (of_bits binary64)) ∙ ap length (s.bits.same ∙ ap (λ (c : Call). c.output) resampled_is) ∙ (counted e r (volume_of (voxels_of from)) lent.output lent.coverage lent.work entry_done).values ∙ entry_succeeds.passes.values

  pub admits : (bad_lengths (output_dims e r) ≡ false) × (too_large (count_of (output_dims e r)) ≡ false) × (some_wild (volume_of (voxels_of from)) ≡ false)
  admits = admitted r (volume_of (voxels_of from)) lent.output lent.coverage lent.work e entry_done

  -- the writer takes what the entry left
  pub file_writes : length lent.bytes ≡ size_of (output_dims e r) → write_call (output_dims e r) out lent.bytes ≡ npy_call_of (Ok tt) (written (output_dims e r) out)
  file_writes = writes_file (output_dims e r) out lent.bytes (lengths_pass (output_dims e r) admits.0 admits.1) out_long

module _ {e : Entry} {r : Request} {from to codes : List ℕ} (g : Goes e r from to codes) where
  pub file_written : to ≡ written (output_dims e r) g.out
  file_written = ap (λ (n : NpyCall). n.buffer) (sym g.wrote) ∙ (file_success_leaves (writing (output_dims e r) g.out g.lent.bytes) (ap (λ (n : NpyCall). n.answer) g.wrote)).1

  pub file_read_again : (is_npy to ≡ true) × (dims_of to ≡ output_dims e r) × (volume_of (voxels_of to) ≡ (call_on e r (voxels_of from) g.lent).output)
  file_read_again =
      let d = output_dims e r in
      let lengths = good_lengths d (admits g.resamples).0 in
      let count = sym (out_long g.resamples) in (
        ap is_npy file_written ∙ written_is_npy d g.out lengths refl count,
        ap dims_of file_written ∙ written_dims d g.out lengths refl,
        ap (λ (f : List ℕ). volume_of (voxels_of f)) file_written ∙ ap volume_of (written_voxels d g.out lengths refl count g.resamples.bits.below) ∙ g.resamples.bits.same ∙ ap (λ (c : Call). c.output) (resampled_is g.resamples),
      )

  pub entry_marks : (call_on e r (voxels_of from) g.lent).coverage ≡ codes
  entry_marks = ap (λ (c : Call). c.coverage) (sym (resampled_is g.resamples)) ∙ g.marks

  -- demand 2: the definition of the entry decides each voxel of the file, and each code
  pub file_values : (volume_of (voxels_of to) ≡ values_of r (axes_of e r) (volume_of (voxels_of from))) × (codes ≡ codes_of r (axes_of e r))
  file_values =
      let w = (entry_succeeds g.resamples).writes in
      (file_read_again.2 ∙ ap (λ (c : Call). c.output) w, sym entry_marks ∙ ap (λ (c : Call). c.coverage) w)
