-- "A refusal returns its number and counts 0, 0, 0" (four of them since #103) "; output, coverage and work hold what they held."
use Prim.Native.Nat.{ℕ}
use mathlib.Core.Path.{◌≡◌, refl}
use mathlib.Core.List.{List}
use lib.ListN.{length}
use lib.Ieee.{Float}
use Rattle.request.specs.declared.Axes.{Axes}
use Rattle.request.specs.declared.Request.{Request}
use Rattle.refusal.specs.Refusals.{first, number_in}
use Rattle.coverage.specs.Coverage.{none}
use Rattle.resample.specs.Call.{Call, call_by, counts_in, filter_call_by, shift_call, zoom_call, spline_filter_call, spline_filter1d_call}
use Rattle.one_voxel.specs.declared.Voxel.{Voxel}
use Rattle.one_voxel.specs.Call.{voxel_call_by, shift_voxel_call, zoom_voxel_call}
use Rattle.promises.specs.Entries.{Entry, shifting, zooming, Filter, whole, along, call, checks, axes_of, voxel_call, voxel_checks, filter_call, filter_checks}
use Rattle.std.specs.Prelude.{Result, Ok, Err, ⊤}
use Rattle.refusal.specs.declared.Refusal.{Refusal}

-- the call leaves these buffers, and counts nothing
pub record Untouched (o : List Float) (c : List ℕ) (w : List Float) (after : Call) : Type 0 where
  pub counts : counts_in after.answer ≡ none
  pub output : after.output ≡ o
  pub coverage : after.coverage ≡ c
  pub work : after.work ≡ w

module _ (r : Request) (input output : List Float) (coverage : List ℕ) (work : List Float) where
  untouched : (v : Result ⊤ Refusal) (a : Axes) → (number_in (call_by v r a input output coverage work).answer ≡ 0 → ⊥) → Untouched output coverage work (call_by v r a input output coverage work)
  untouched (Ok tt) a h = absurd (h refl)
  untouched (Err why) a h = record { counts = refl; output = refl; coverage = refl; work = refl }

  pub refusal_leaves : (e : Entry) → (number_in (call e r input output coverage work).answer ≡ 0 → ⊥) → Untouched output coverage work (call e r input output coverage work)
  unfolding shift_call zoom_call
  refusal_leaves shifting = untouched (first (checks shifting r input (length output) (length coverage) (length work))) (axes_of shifting r)
  refusal_leaves zooming = untouched (first (checks zooming r input (length output) (length coverage) (length work))) (axes_of zooming r)

module _ (r : Request) (input output : List Float) where
  same : (v : Result ⊤ Refusal) (filtered : List Float) → (number_in (filter_call_by v filtered output).answer ≡ 0 → ⊥) → (filter_call_by v filtered output).output ≡ output
  same (Ok tt) filtered h = absurd (h refl)
  same (Err why) filtered h = refl

  pub filter_refusal_leaves : (f : Filter) → (number_in (filter_call f r input output).answer ≡ 0 → ⊥) → (filter_call f r input output).output ≡ output
  unfolding spline_filter_call spline_filter1d_call
  filter_refusal_leaves whole = same (first (filter_checks whole r input (length output))) _
  filter_refusal_leaves (along axis) = same (first (filter_checks (along axis) r input (length output))) _

-- one voxel (#105)
module _ (r : Request) (input work : List Float) (at : List ℕ) (value : List Float) (code : List ℕ) where
  held : (v : Result ⊤ Refusal) (made : Voxel) → (number_in (voxel_call_by v made value code).answer ≡ 0 → ⊥) → ((voxel_call_by v made value code).value ≡ value) × ((voxel_call_by v made value code).code ≡ code)
  held (Ok tt) made h = absurd (h refl)
  held (Err why) made h = (refl, refl)

  pub voxel_refusal_leaves : (e : Entry) → (number_in (voxel_call e r input work at value code).answer ≡ 0 → ⊥) → ((voxel_call e r input work at value code).value ≡ value) × ((voxel_call e r input work at value code).code ≡ code)
  unfolding shift_voxel_call zoom_voxel_call
  voxel_refusal_leaves shifting = held (first (voxel_checks shifting r input (length value) (length code) (length work) at)) _
  voxel_refusal_leaves zooming = held (first (voxel_checks zooming r input (length value) (length code) (length work) at)) _
