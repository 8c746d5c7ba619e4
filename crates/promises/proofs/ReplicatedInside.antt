-- From 0 to L - 1 Replicate is Nearest: where the coordinates of a voxel lie there on each axis, the two modes read the same records from the same coefficients, and give the same bits and the same code.
use Prim.Native.Nat.{ℕ, ◌*◌}
use mathlib.Core.Path.{◌≡◌, refl, sym, ap, ◌∙◌, subst}
use mathlib.Core.Bool.{◌&&◌, ◌||◌, cond}
use mathlib.Core.List.{List, [], ◌∷◌}
use lib.Ieee.{Float}
use Rattle.exact.specs.Rounded.{num}
use Rattle.border.specs.declared.BorderMode.TheVariants.{Nearest, Replicate}
use Rattle.axis.specs.declared.coordinate.Axis.{Axis}
use Rattle.axis.specs.Coordinate.{settled, kept}
use Rattle.axis.proofs.Settling.{replicate_inside, nearest_point, nearest_folded}
use Rattle.refusal.specs.Refusals.{number_in}
use Rattle.coverage.specs.Coverage.{code_by, own_code, kept_at}
use Rattle.voxels.specs.Voxel.{tap_of, computed, voxel_at}
use Rattle.prefilter.specs.Volume.{filter_axis, filter_volume}
use Rattle.request.specs.declared.Axes.{Axes}
use Rattle.request.specs.declared.Request.{Request}
use Rattle.resample.specs.Call.{source_of, coefficients}
use Rattle.promises.specs.Entries.{Entry, shifting, zooming, call, axes_of, output_dims}
use Rattle.promises.specs.Place.{Inside, voxel, code}
use Rattle.promises.specs.Replicates.{in_mode, InScan, AllInScan}
use Rattle.promises.proofs.Succeeding.{succeeds}
use Rattle.promises.proofs.Places.{code_is, voxel_is}

-- ---- three axes
module _ (order : ℕ) (xa ya za : Axis) (i j k : ℕ) (x : InScan xa i) (y : InScan ya j) (z : InScan za k) where
  settles : (a : Axis) (i : ℕ) → InScan a i → settled Replicate a i ≡ settled Nearest a i
  settles a i s = replicate_inside a i s.0 s.1

  keeps : (a : Axis) (i : ℕ) → InScan a i → kept_at Replicate a i ≡ kept_at Nearest a i
  unfolding kept_at
  keeps a i s = ap kept (settles a i s)

  codes_agree : own_code order Replicate xa ya za i j k ≡ own_code order Nearest xa ya za i j k
  unfolding own_code
  codes_agree = λ t. code_by Nearest (keeps xa i x t && keeps ya j y t && keeps za k z t) (nearest_folded order xa i (settles xa i x) t || nearest_folded order ya j (settles ya j y) t || nearest_folded order za k (settles za k z) t)

  voxels_agree : (xs : List Float) → voxel_at order Replicate xa ya za xs i j k ≡ voxel_at order Nearest xa ya za xs i j k
  unfolding voxel_at
  voxels_agree xs =
      let px = nearest_point order xa i (settles xa i x) in
      let py = nearest_point order ya j (settles ya j y) in
      let pz = nearest_point order za k (settles za k z) in
      λ t. cond (keeps xa i x t && keeps ya j y t && keeps za k z t) (computed order xs (ya.len * za.len) za.len (tap_of (px t)) (tap_of (py t)) (tap_of (pz t))) (num 0)

-- ---- the same coefficients
same_coefficients : (r : Request) (input : List Float) → coefficients (in_mode Replicate r) input ≡ coefficients (in_mode Nearest r) input
unfolding coefficients source_of filter_volume filter_axis
same_coefficients r input = refl

-- ---- the promise of `shift` and `zoom`
module _ (e : Entry) (r : Request) (input output : List Float) (coverage : List ℕ) (work : List Float) where
  abbrev in_nearest : Request
  in_nearest = in_mode Nearest r

  abbrev in_replicate : Request
  in_replicate = in_mode Replicate r

  -- the pad is the same, and so are the axes
  same_axes : (e : Entry) → axes_of e in_replicate ≡ axes_of e in_nearest
  same_axes shifting = refl
  same_axes zooming = refl

  pub replicate_as_nearest :
      number_in (call e in_replicate input output coverage work).answer ≡ 0 → number_in (call e in_nearest input output coverage work).answer ≡ 0 → (i j k : ℕ) → Inside (output_dims e in_replicate) i j k → AllInScan (axes_of e in_replicate) i j k →
      (voxel (output_dims e in_replicate) (call e in_replicate input output coverage work).output i j k ≡ voxel (output_dims e in_nearest) (call e in_nearest input output coverage work).output i j k)
      × (code (output_dims e in_replicate) (call e in_replicate input output coverage work).coverage i j k ≡ code (output_dims e in_nearest) (call e in_nearest input output coverage work).coverage i j k)
  replicate_as_nearest done done' i j k h scan =
      let s = succeeds in_replicate input output coverage work e done in
      let s' = succeeds in_nearest input output coverage work e done' in
      let a = axes_of e in_replicate in
      let same = same_axes e in
      let h' : Inside (output_dims e in_nearest) i j k = subst (λ (a : Axes). Inside (a.x.out ∷ a.y.out ∷ a.z.out ∷ []) i j k) same h in (
        voxel_is e in_replicate input output coverage work s i j k h ∙ voxels_agree r.order a.x a.y a.z i j k scan.0 scan.1 scan.2 (coefficients in_replicate input)
            ∙ (λ t. voxel_at r.order Nearest (same t).x (same t).y (same t).z (same_coefficients r input t) i j k) ∙ sym (voxel_is e in_nearest input output coverage work s' i j k h'),
        code_is e in_replicate input output coverage work s i j k h ∙ codes_agree r.order a.x a.y a.z i j k scan.0 scan.1 scan.2
            ∙ (λ t. own_code r.order Nearest (same t).x (same t).y (same t).z i j k) ∙ sym (code_is e in_nearest input output coverage work s' i j k h'),
      )
