-- "In Constant, order 0 or 1, whole shifts below 2^20 move voxels exactly (as numbers)."
use Prim.Native.Nat.{ℕ, ◌*◌, ◌≤◌}
use mathlib.Core.Path.{◌≡◌, sym, ap, ◌∙◌, subst}
use mathlib.Core.Logic.{◌⊎◌, ⊎_elim, ⊎_map}
use mathlib.Core.Bool.{Bool, true, false, ◌&&◌, ◌||◌, cond}
use mathlib.Core.List.{List}
use lib.IntN.{ℤ, pos, ◌-ℤ◌}
use lib.Dec.{lit≤}
use lib.ListN.{length}
use lib.Ieee.{Float}
use Rattle.border.specs.declared.BorderMode.TheVariants.{Constant}
use Rattle.axis.specs.Folded.{folded_at}
use Rattle.coverage.specs.Coverage.{kept_at, code_by, own_code, drop_code, drop_value}
use Rattle.voxels.specs.Voxel.{tap_of, computed, voxel_at}
use Rattle.request.specs.declared.Request.{Request}
use Rattle.refusal.specs.declared.Asked.TheVariants.{Volume}
use Rattle.refusal.specs.Refusals.{shift_checks, number_in}
use Rattle.resample.specs.Call.{coefficients, shift_call}
use Rattle.promises.specs.Entries.{shifting, output_dims}
use Rattle.promises.specs.Given.{NoneBut}
use Rattle.promises.specs.Place.{Inside, voxel, code}
use Rattle.promises.specs.Moves.{F64s, Whole, Outside, Moved}
use Rattle.promises.proofs.Places.{code_is, voxel_is}
use Rattle.promises.proofs.OneVoxel.{Holds}
use Rattle.promises.proofs.WholeRequest.{Asked, dim, axis, point, and_false, plain, length_is, tame, drops, keeps, unfolded, named, succeeded, success}
use Rattle.promises.proofs.WholeVoxel.{reads}

-- ---- one axis that drops a voxel is enough
one_drops : (a b c : Bool) → (a ≡ false) ⊎ (b ≡ false) ⊎ (c ≡ false) → (a && b && c) ≡ false
one_drops a b c =
    ⊎_elim (λ e. ap (λ (t : Bool). t && b && c) e)
    (⊎_elim (λ e. ap (λ (t : Bool). a && t && c) e ∙ ap (λ (t : Bool). t && c) (and_false a)) (λ e. ap (λ (t : Bool). a && b && t) e ∙ and_false (a && b)))

module _ {r : Request} {input output : List Float} {coverage : List ℕ} {work : List Float} {fill : Float} {s : ℕ → ℤ} (a : Asked r input output coverage work fill s) where
  -- ---- the voxel i, j, k
  module _ (i j k : ℕ) (h : Inside r.dims i j k) where
    inside : Inside (output_dims shifting r) i j k
    inside = record { x = h.x; y = h.y; z = h.z }

    abbrev after : Float
    after = voxel r.dims (shift_call r input output coverage work).output i j k

    abbrev mark : ℕ
    mark = code r.dims (shift_call r input output coverage work).coverage i j k

    after_is : after ≡ voxel_at r.order r.mode (axis r 0) (axis r 1) (axis r 2) (coefficients r input) i j k
    after_is = voxel_is shifting r input output coverage work (success a) i j k inside

    mark_is : mark ≡ own_code r.order r.mode (axis r 0) (axis r 1) (axis r 2) i j k
    mark_is = code_is shifting r input output coverage work (success a) i j k inside

    -- what the three axes give, from these values with these lengths
    abbrev given : List Float → ℕ → ℕ → Float
    given xs y z = computed r.order xs (y * z) z (tap_of (point r 0 i)) (tap_of (point r 1 j)) (tap_of (point r 2 k))

    abbrev some-folded : Bool
    some-folded = folded_at r.order r.mode (axis r 0) i || folded_at r.order r.mode (axis r 1) j || folded_at r.order r.mode (axis r 2) k

    pub goes : Outside (dim r 0) (pos i -ℤ s 0) ⊎ Outside (dim r 1) (pos j -ℤ s 1) ⊎ Outside (dim r 2) (pos k -ℤ s 2) → (after ≡ fill) × (mark ≡ 1)
    unfolding voxel_at own_code
    goes o =
        let none = one_drops (kept_at r.mode (axis r 0) i) (kept_at r.mode (axis r 1) j) (kept_at r.mode (axis r 2) k) (⊎_map (drops a 0 (lit≤ tt) i h.x) (⊎_map (drops a 1 (lit≤ tt) j h.y) (drops a 2 (lit≤ tt) k h.z)) o) in (
          after_is ∙ (λ t. cond (none t) (given (coefficients r input) (axis r 1).len (axis r 2).len) (drop_value r.mode)) ∙ ap drop_value a.constant,
          mark_is ∙ (λ t. code_by r.mode (none t) some-folded) ∙ ap drop_code a.constant,
        )

    module _ (x y z : ℕ) (to : Inside r.dims x y z) (ex : pos i -ℤ s 0 ≡ pos x) (ey : pos j -ℤ s 1 ≡ pos y) (ez : pos k -ℤ s 2 ≡ pos z) where
      all_keep : (kept_at r.mode (axis r 0) i && kept_at r.mode (axis r 1) j && kept_at r.mode (axis r 2) k) ≡ true
      all_keep = λ t. keeps a 0 (lit≤ tt) i h.x x to.x ex t && keeps a 1 (lit≤ tt) j h.y y to.y ey t && keeps a 2 (lit≤ tt) k h.z z to.z ez t

      none_folded : some-folded ≡ false
      none_folded = λ t. unfolded a 0 (lit≤ tt) i h.x x to.x ex t || unfolded a 1 (lit≤ tt) j h.y y to.y ey t || unfolded a 2 (lit≤ tt) k h.z z to.z ez t

      pub comes : Holds (voxel r.dims input x y z) after × (mark ≡ 0)
      unfolding voxel_at own_code
      comes =
          let e : after ≡ given input (dim r 1) (dim r 2) = after_is ∙ (λ t. cond (all_keep t) (given (plain a t) (length_is a 1 t) (length_is a 2 t)) (drop_value r.mode)) in (
            subst (Holds (voxel r.dims input x y z)) (sym e)
                (reads input a.f64 (tame a) (dim r 0) (dim r 1) (dim r 2) x y z (success a).passes.admitted.all (point r 0 i) (point r 1 j) (point r 2 k) r.order a.low
                (named a 0 (lit≤ tt) i h.x x to.x ex) (named a 1 (lit≤ tt) j h.y y to.y ey) (named a 2 (lit≤ tt) k h.z z to.z ez)),
            mark_is ∙ (λ t. code_by r.mode (all_keep t) (none_folded t)),
          )

  pub moved : Moved r.dims s fill input (shift_call r input output coverage work).output (shift_call r input output coverage work).coverage
  moved = record { inside = λ i j k x y z h to ex ey ez. let c = comes i j k h x y z to ex ey ez in (c.0.same, c.1); outside = goes }

pub whole_shift_moves :
    (r : Request) (input output : List Float) (coverage : List ℕ) (work : List Float) (fill : Float) (s : ℕ → ℤ) → r.mode ≡ Constant fill → r.order ≤ 1 → Whole r s → F64s input →
    NoneBut (shift_checks Volume r input (length output) (length coverage) (length work)) 9 →
    (number_in (shift_call r input output coverage work).answer ≡ 0) × Moved r.dims s fill input (shift_call r input output coverage work).output (shift_call r input output coverage work).coverage
whole_shift_moves r input output coverage work fill s constant low whole f64 clear =
    let a : Asked r input output coverage work fill s = record { constant = constant; low = low; whole = whole; f64 = f64; clear = clear } in
    (succeeded a, moved a)
