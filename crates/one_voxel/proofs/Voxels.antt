-- The voxel by the records of its three indices, and what the sums read.
use Prim.Native.Nat.{ℕ, ◌*◌}
use mathlib.Core.Path.{◌≡◌, sym, ap, ◌∙◌}
use mathlib.Core.Bool.{Bool, true, false, ◌&&◌}
use mathlib.Core.List.{List, [], ◌∷◌}
use lib.ListN.{take}
use lib.Ieee.{Float}
use Rattle.border.specs.declared.BorderMode.{BorderMode}
use Rattle.axis.specs.declared.coordinate.Axis.{Axis}
use Rattle.axis.specs.declared.point.Point.{Point}
use Rattle.axis.specs.Point.{is_kept, point_at}
use Rattle.request.specs.declared.Axes.{Axes}
use Rattle.request.specs.declared.Request.{Request}
use Rattle.request.specs.Sizes.{filters, needed}
use Rattle.refusal.specs.declared.Refusal.{Refusal}
use Rattle.coverage.specs.Coverage.{kept_at, drop_value}
use Rattle.voxels.specs.Voxel.{tap_of, computed, voxel_at}
use Rattle.voxels.proofs.Sweeping.{marked_kept}
use Rattle.one_voxel.specs.declared.Voxel.{Voxel}
use Rattle.one_voxel.specs.Call.{lent_source, voxel_of, voxel_call_of, voxel_call_by}
use Rattle.std.specs.Prelude.{Result, Ok, Err, ⊤}

-- ---- the value, by the three records
module _ (order : ℕ) (mode : BorderMode) (xa ya za : Axis) (xs : List Float) (i j k : ℕ) {x y z : Point} (ex : x ≡ point_at order mode xa i) (ey : y ≡ point_at order mode ya j) (ez : z ≡ point_at order mode za k) where
  abbrev marks : Bool
  marks = is_kept x.mark && is_kept y.mark && is_kept z.mark

  kept : marks ≡ (kept_at mode xa i && kept_at mode ya j && kept_at mode za k)
  kept = λ t. marked_kept order mode xa i ex t && marked_kept order mode ya j ey t && marked_kept order mode za k ez t

  pub value_kept : marks ≡ true → computed order xs (ya.len * za.len) za.len (tap_of x) (tap_of y) (tap_of z) ≡ voxel_at order mode xa ya za xs i j k
  unfolding voxel_at
  value_kept all = (λ t. computed order xs (ya.len * za.len) za.len (tap_of (ex t)) (tap_of (ey t)) (tap_of (ez t))) ∙ simp (sym kept ∙ all)

  pub value_dropped : marks ≡ false → drop_value mode ≡ voxel_at order mode xa ya za xs i j k
  unfolding voxel_at
  value_dropped some = simp (sym kept ∙ some)

-- ---- what the sums read
module _ (r : Request) (input work : List Float) where
  pub from_work : {need : ℕ} → filters r ≡ true → need ≡ needed r → take need work ≡ lent_source r input work
  unfolding lent_source
  from_work f n = ap (λ (k : ℕ). take k work) n ∙ simp f

  pub from_input : filters r ≡ false → input ≡ lent_source r input work
  unfolding lent_source
  from_input f = simp f

-- ---- the call, by its verdict
module _ (value : List Float) (code : List ℕ) {v : Result ⊤ Refusal} where
  pub voxel_passed :
      (r : Request) (input work : List Float) (at : List ℕ) (a' a : Axes) {w : Voxel} {value' : List Float} {code' : List ℕ} → v ≡ Ok tt → a' ≡ a → w ≡ voxel_of r a' input work at → value' ≡ w.value ∷ [] → code' ≡ w.code ∷ [] →
      voxel_call_of (Ok tt) value' code' ≡ voxel_call_by v (voxel_of r a input work at) value code
  voxel_passed r input work at a' a q e own ev ec =
      (λ t. voxel_call_of (Ok tt) (ev t) (ec t))
      ∙ ap (λ (w : Voxel). voxel_call_of (Ok tt) (w.value ∷ []) (w.code ∷ [])) (own ∙ ap (λ (b : Axes). voxel_of r b input work at) e)
      ∙ ap (λ (u : Result ⊤ Refusal). voxel_call_by u (voxel_of r a input work at) value code) (sym q)

  pub voxel_refused : (w : Voxel) (why : Refusal) → v ≡ Err why → voxel_call_of (Err why) value code ≡ voxel_call_by v w value code
  voxel_refused w why q = ap (λ (u : Result ⊤ Refusal). voxel_call_by u w value code) (sym q)
