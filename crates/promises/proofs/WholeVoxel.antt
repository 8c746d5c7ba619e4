-- A voxel whose three axes name whole indices x, y, z is the input voxel there: copied at order 0, the same number at order 1.
use Prim.Native.Nat.{ℕ, ◌+◌, ◌*◌, ◌≤◌, ◌<◌, zero-le}
use mathlib.Core.Path.{◌≡◌, sym, subst}
use mathlib.Core.List.{List}
use lib.Dec.{T}
use lib.Arith.{digits_lt}
use lib.ListN.{length, get_or}
use lib.Ieee.{Float, nan}
use lib.Ieee.Scale.{finite}
use Rattle.exact.proofs.Weights.{same_refl}
use Rattle.axis.specs.declared.point.Point.{Point}
use Rattle.voxels.specs.Voxel.{tap_of, computed}
use Rattle.promises.specs.Moves.{F64s}
use Rattle.promises.proofs.OneVoxel.{Holds, one_voxel}
use Rattle.promises.proofs.WholePoint.{Names, low_order}

-- every element is finite
abbrev pub Finite : List Float → Type 0
Finite l = (m : ℕ) → m < length l → T (finite (get_or l m nan))

module _ (xs : List Float) (f64 : F64s xs) (tame : Finite xs) (nx ny nz x y z : ℕ) (all : length xs ≡ nx * (ny * nz)) (tx ty tz : Point) where
  abbrev near : ℕ → ℕ → ℕ → ℕ
  near i j k = get_or tx.at i 0 * (ny * nz) + (get_or ty.at j 0 * nz + get_or tz.at k 0)

  module _ (order : ℕ) (hx : Names order nx x tx) (hy : Names order ny y ty) (hz : Names order nz z tz) where
    lies : (i j k : ℕ) → i ≤ order → j ≤ order → k ≤ order → near i j k < length xs
    lies i j k p q r = subst (λ (m : ℕ). near i j k < m) (sym all) (digits_lt (hx.within i p) (digits_lt (hy.within j q) (hz.within k r)))

    named : {a : Float} → Holds (get_or xs (near 0 0 0) nan) a → Holds (get_or xs (x * (ny * nz) + (y * nz + z)) nan) a
    named {a} = subst (λ (m : ℕ). Holds (get_or xs m nan) a) (λ t. hx.first t * (ny * nz) + (hy.first t * nz + hz.first t))

  abbrev Reads : ℕ → Type 0
  Reads order = Names order nx x tx → Names order ny y ty → Names order nz z tz → Holds (get_or xs (x * (ny * nz) + (y * nz + z)) nan) (computed order xs (ny * nz) nz (tap_of tx) (tap_of ty) (tap_of tz))

  pub reads : (order : ℕ) → order ≤ 1 → Reads order
  unfolding computed
  reads = low_order Reads
      (λ hx hy hz.
      let l = lies 0 hx hy hz 0 0 0 zero-le zero-le zero-le in
      named 0 hx hy hz (record { is64 = f64 (near 0 0 0) l; same = same_refl (get_or xs (near 0 0 0) nan) (tame (near 0 0 0) l) }))
      (λ hx hy hz.
      let l = lies 1 hx hy hz in
      named 1 hx hy hz (one_voxel xs (ny * nz) nz (tap_of tx) (tap_of ty) hx.weights hy.weights (tap_of tz) hz.weights (f64 (near 0 0 0) (l 0 0 0 zero-le zero-le zero-le)) (λ i j k p q r. tame (near i j k) (l i j k p q r))))
