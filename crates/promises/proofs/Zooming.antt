-- Zoom drops no voxel and never gives refusal 9, in any mode and at any order: each code of a success is 0 or 3, so nothing is counted as filled or defaulted.
use Prim.Native.Nat.{ℕ, ◌+◌, ◌≤◌, ◌<◌}
use native.Mathlib.Omega.{arith}
use mathlib.Core.Path.{◌≡◌, refl, subst}
use mathlib.Core.Logic.{◌⊎◌, ⊎_elim}
use mathlib.Core.List.{List}
use lib.Dec.{lit<}
use lib.ListN.{length}
use lib.Ieee.{Float}
use Rattle.limits.proofs.Singles.{two_long}
use Rattle.refusal.specs.Refusals.{number_in}
use Rattle.coverage.specs.declared.counts.Counts.{Counts}
use Rattle.request.specs.declared.Request.{Request}
use Rattle.request.specs.Sizes.{zoom_dims}
use Rattle.request.specs.Bookkeeping.{Lengths}
use Rattle.request.proofs.Requests.{padding_most, good_lengths, good_outputs}
use Rattle.resample.specs.Call.{counts_in, zoom_call}
use Rattle.promises.specs.Entries.{zooming, axis_at, output_dims}
use Rattle.promises.specs.Place.{Inside, code}
use Rattle.promises.proofs.Keeping.{AllSpan, Clear, kept_never_beside, kept_no_drop, kept_counted}
use Rattle.promises.proofs.Slices.{outs, longer_or_lone}
use Rattle.promises.proofs.Spans.{Spans, lone_spans}
use Rattle.promises.proofs.Spread.{zoom_spans}

module _ (r : Request) (input output : List Float) (coverage : List ℕ) (work : List Float) where
  -- where no refusal but 9 applies
  pub zooming_spans : Clear zooming r input output coverage work → AllSpan zooming r
  zooming_spans clear = record { x = axis_spans 0 (lit< tt); y = axis_spans 1 (lit< tt); z = axis_spans 2 (lit< tt) }
    where
      lengths : Lengths r.dims
      lengths = good_lengths r.dims (clear 3 (λ e. omega (arith, e)))

      axis_spans : (c : ℕ) → c < 3 → (i : ℕ) → i < (axis_at zooming r c).out → Spans r.mode (axis_at zooming r c) i
      axis_spans c h i l =
          let out = good_outputs r.dims (zoom_dims r) (clear 12 (λ e. omega (arith, e))) (clear 5 (λ e. omega (arith, e))) c h in
          let e = outs r c h in
          ⊎_elim
          (λ two. zoom_spans (record { long = two; short = (lengths c h).1; two = subst (λ (n : ℕ). 2 ≤ n) e (out.1 (two_long _ two)); most = subst (λ (n : ℕ). n ≤ 4096) e out.0.1; small = padding_most r c refl }) i l r.mode)
          (lone_spans r.mode)
          (longer_or_lone r zooming (clear 12 (λ e. omega (arith, e))) lengths c h i l)

  abbrev number : ℕ
  number = number_in (zoom_call r input output coverage work).answer

  abbrev codes : List ℕ
  codes = (zoom_call r input output coverage work).coverage

  abbrev counts : Counts
  counts = counts_in (zoom_call r input output coverage work).answer

  pub never_beside : number ≡ 9 → ⊥
  never_beside = kept_never_beside zooming r input output coverage work zooming_spans

  pub no_drop : number ≡ 0 → (i j k : ℕ) → Inside (output_dims zooming r) i j k → (code (output_dims zooming r) codes i j k ≡ 0) ⊎ (code (output_dims zooming r) codes i j k ≡ 3)
  no_drop = kept_no_drop zooming r input output coverage work zooming_spans

  pub all_counted : number ≡ 0 → (counts.computed + counts.folded ≡ length output) × (counts.filled ≡ 0) × (counts.defaulted ≡ 0)
  all_counted = kept_counted zooming r input output coverage work zooming_spans
