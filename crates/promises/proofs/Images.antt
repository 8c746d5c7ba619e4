-- Each voxel of a moved volume is the fill, or an input voxel as a number: what holds of these holds of all.
use Prim.Native.Nat.{ℕ, ◌<◌}
use mathlib.Core.Path.{◌≡◌, sym, ◌∙◌, subst}
use mathlib.Core.Logic.{◌⊎◌, inl, inr}
use mathlib.Core.List.{List}
use lib.IntN.{ℤ, pos, ◌-ℤ◌}
use lib.Arith.{digits_lt}
use lib.ListN.{length, get_or}
use lib.Ieee.{Float, nan}
use Rattle.prefilter.specs.Volume.{count_of}
use Rattle.request.specs.declared.Request.{Request}
use Rattle.resample.specs.Call.{shift_call}
use Rattle.promises.specs.Entries.{shifting}
use Rattle.promises.specs.Place.{place_of, Inside, voxel}
use Rattle.promises.specs.Moves.{Outside}
use Rattle.promises.proofs.Counted.{counted}
use Rattle.promises.proofs.Places.{each_place}
use Rattle.promises.proofs.OneVoxel.{Holds}
use Rattle.promises.proofs.WholeRequest.{Asked, dim, succeeded, success}
use Rattle.promises.proofs.WholeShift.{where_lies}
use Rattle.promises.proofs.Moving.{goes, comes}

module _ {r : Request} {input output : List Float} {coverage : List ℕ} {work : List Float} {fill : Float} {s : ℕ → ℤ} (a : Asked r input output coverage work fill s) where
  abbrev result : List Float
  result = (shift_call r input output coverage work).output

  pub result_length : length result ≡ count_of r.dims
  result_length = (counted shifting r input output coverage work (succeeded a)).values ∙ (success a).passes.values

  module _ (P : Float → Type 0) (filled : P fill) (moved : (m : ℕ) (v : Float) → m < length input → Holds (get_or input m nan) v → P v) where
    by_place : (i j k : ℕ) → Inside r.dims i j k → P (voxel r.dims result i j k)
    by_place i j k h = elim (where_lies (dim r 0) (pos i -ℤ s 0)) [
      | inr o ↦ fills (inl o)
      | inl x ↦ elim (where_lies (dim r 1) (pos j -ℤ s 1)) [
        | inr o ↦ fills (inr (inl o))
        | inl y ↦ elim (where_lies (dim r 2) (pos k -ℤ s 2)) [
          | inr o ↦ fills (inr (inr o))
          | inl z ↦
              moved (place_of r.dims x.0 y.0 z.0) (voxel r.dims result i j k) (lies x.0 y.0 z.0 x.1 y.1 z.1)
              (comes a i j k h x.0 y.0 z.0 (record { x = x.1; y = y.1; z = z.1 }) x.2 y.2 z.2).0
        ]
      ]
    ]
      where
        fills : Outside (dim r 0) (pos i -ℤ s 0) ⊎ Outside (dim r 1) (pos j -ℤ s 1) ⊎ Outside (dim r 2) (pos k -ℤ s 2) → P (voxel r.dims result i j k)
        fills o = subst P (sym (goes a i j k h o).0) filled

        lies : (x y z : ℕ) → x < dim r 0 → y < dim r 1 → z < dim r 2 → place_of r.dims x y z < length input
        lies x y z lx ly lz = subst (λ (n : ℕ). place_of r.dims x y z < n) (sym (success a).passes.admitted.all) (digits_lt lx (digits_lt ly lz))

    pub each : (m : ℕ) → m < length result → P (get_or result m nan)
    each m l = each_place r.dims (λ (m : ℕ). P (get_or result m nan)) by_place m (subst (λ (n : ℕ). m < n) result_length l)
