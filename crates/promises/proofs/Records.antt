-- #105: where one voxel is given, so is the record of each of its axes: who checks a sum on paper is refused nothing on the way.
use Prim.Native.Nat.{ℕ, zero, suc, ◌<◌}
use native.Mathlib.Omega.{arith}
use mathlib.Core.Path.{◌≡◌, refl, sym, ap, ◌∙◌, subst}
use mathlib.Core.Bool.{Bool, true, false, ◌&&◌, ◌||◌}
use mathlib.Core.List.{List}
use lib.Dec.{eqb}
use lib.ListN.{length, get_or}
use lib.Ieee.{Float, nan}
use borrow.Author.Tests.{eq-eqb}
use Rattle.lists.proofs.Somes.{none-at}
use Rattle.std.proofs.lemmas.Bool.{or_parts}
use Rattle.axis.specs.Point.{some_beside}
use Rattle.request.specs.declared.Request.{Request}
use Rattle.request.specs.Sizes.{zoom_dims}
use Rattle.request.specs.Conditions.{bad_length, bad_lengths, bad_shift, bad_zoom, bad_factors, moves_slice, moves_slices, zooms_slice, zooms_slices, bad_output, bad_outputs, bad_index, bad_indices, wrong, beside_any}
use Rattle.refusal.specs.Refusals.{first, number_in}
use Rattle.refusal.proofs.Firsts.{all_clear, clear_passes}
use Rattle.promises.specs.Entries.{Entry, shifting, zooming, axis_at, voxel_call, voxel_checks, point_checks}
use Rattle.promises.specs.OnPaper.{axis_call, Places}
use Rattle.promises.proofs.Given.{voxel_numbered}
use Rattle.promises.proofs.Succeeding.{passed}
use Rattle.promises.proofs.Slices.{outs}
use Rattle.promises.proofs.OnPaper.{point_numbered}
use Rattle.std.specs.Prelude.{Ok}

buffers : {c n w : ℕ} → c ≡ 1 → n ≡ 6 → w ≡ 6 → (wrong c 1 || wrong n 6 || wrong w 6) ≡ false
buffers p q s = simp (eq-eqb _ _ p, eq-eqb _ _ q, eq-eqb _ _ s)

-- ---- refusal 9 on no axis is refusal 9 on none of them
of_three : (zeroth x y z : Bool) → (zeroth && (x || y || z)) ≡ false → ((zeroth && x) ≡ false) × (((zeroth && y) ≡ false) × ((zeroth && z) ≡ false))
of_three true x y z h =
    let u = or_parts (x || y) z h in
    let v = or_parts x y u.0 in
    (v.0, (v.1, u.1))
of_three false x y z h = (refl, (refl, refl))

module _ (r : Request) where
  module _ (input : List Float) (value code work : ℕ) (at : List ℕ) where
    none_beside : (e : Entry) → first (voxel_checks e r input value code work at) ≡ Ok tt → (axis : ℕ) → axis < 3 → (eqb r.order 0 && some_beside r.mode (axis_at e r axis)) ≡ false
    unfolding beside_any
    none_beside e q = pick (λ (axis : ℕ). (eqb r.order 0 && some_beside r.mode (axis_at e r axis)) ≡ false) (three e q)
      where
        three : (e : Entry) → first (voxel_checks e r input value code work at) ≡ Ok tt → ((eqb r.order 0 && some_beside r.mode (axis_at e r 0)) ≡ false) × (((eqb r.order 0 && some_beside r.mode (axis_at e r 1)) ≡ false) × ((eqb r.order 0 && some_beside r.mode (axis_at e r 2)) ≡ false))
        three shifting q = of_three (eqb r.order 0) _ _ _ (all_clear (voxel_checks shifting r input value code work at) q).1.1.1.1.1.1.1.0
        three zooming q = of_three (eqb r.order 0) _ _ _ (all_clear (voxel_checks zooming r input value code work at) q).1.1.1.1.1.1.1.1.0

        pick : (P : ℕ → Type 0) → P 0 × (P 1 × P 2) → (axis : ℕ) → axis < 3 → P axis
        pick P h zero l = h.0
        pick P h (suc zero) l = h.1.0
        pick P h (suc (suc zero)) l = h.1.1
        pick P h (suc (suc (suc n))) l = absurd (omega arith)

    -- no check of the record applies
    taken : (e : Entry) → first (voxel_checks e r input value code work at) ≡ Ok tt → (axis : ℕ) → axis < 3 → {c n w : ℕ} → c ≡ 1 → n ≡ 6 → w ≡ 6 → first (point_checks e (get_or r.dims axis 0) (get_or r.factors axis nan) r.order r.prefilter r.mode (get_or at axis 0) c n w) ≡ Ok tt
    unfolding bad_lengths bad_factors bad_indices moves_slices zooms_slices bad_outputs
    taken shifting q axis l {c} {n} {w} one six six' =
        let h = all_clear (voxel_checks shifting r input value code work at) q in
        let long = none-at (λ (i : ℕ). bad_length (get_or r.dims i 0)) 3 h.1.0 axis l in
        let sound = none-at (λ (i : ℕ). bad_shift (get_or r.factors i nan)) 3 h.1.1.0 axis l in
        let still = none-at (λ (i : ℕ). moves_slice (get_or r.dims i 0) (get_or r.factors i nan)) 3 h.1.1.1.0 axis l in
        let inside = none-at (λ (i : ℕ). bad_index (get_or r.dims i 0) (get_or at i 0)) 3 h.1.1.1.1.1.1.1.1.0 axis l in
        clear_passes (point_checks shifting (get_or r.dims axis 0) (get_or r.factors axis nan) r.order r.prefilter r.mode (get_or at axis 0) c n w) (h.0, (long, (sound, (still, (buffers one six six', (none_beside shifting q axis l, (inside, tt)))))))
    taken zooming q axis l {c} {n} {w} one six six' =
        let h = all_clear (voxel_checks zooming r input value code work at) q in
        let long = none-at (λ (i : ℕ). bad_length (get_or r.dims i 0)) 3 h.1.0 axis l in
        let sound = none-at (λ (i : ℕ). bad_zoom (get_or r.factors i nan)) 3 h.1.1.0 axis l in
        let still = none-at (λ (i : ℕ). zooms_slice (get_or r.dims i 0) (get_or (zoom_dims r) i 0)) 3 h.1.1.1.0 axis l in
        let out = none-at (λ (i : ℕ). bad_output (get_or r.dims i 0) (get_or (zoom_dims r) i 0)) 3 h.1.1.1.1.0 axis l in
        let inside = none-at (λ (i : ℕ). bad_index (get_or (zoom_dims r) i 0) (get_or at i 0)) 3 h.1.1.1.1.1.1.1.1.1.0 axis l in
        let e = outs r axis l in
        let voxels = get_or r.dims axis 0 in
        clear_passes (point_checks zooming (get_or r.dims axis 0) (get_or r.factors axis nan) r.order r.prefilter r.mode (get_or at axis 0) c n w) (h.0, (long, (sound, (subst (λ (o : ℕ). zooms_slice voxels o ≡ false) e still, (subst (λ (o : ℕ). bad_output voxels o ≡ false) e out, (buffers one six six', (none_beside zooming q axis l, (subst (λ (n : ℕ). bad_index n (get_or at axis 0) ≡ false) e inside, tt))))))))

-- of the axis `axis`, at its index of the three in `at`
pub records_taken : (e : Entry) (r : Request) (input work : List Float) (at : List ℕ) (value : List Float) (code : List ℕ) → number_in (voxel_call e r input work at value code).answer ≡ 0 → (axis : ℕ) → axis < 3 → (c : List Float) (n : List ℕ) (w : List Float) → Places c n w → number_in (axis_call e r axis (get_or at axis 0) c n w).answer ≡ 0
records_taken e r input work at value code done axis l c n w p =
    let q = passed (first (voxel_checks e r input (length value) (length code) (length work) at)) (sym (voxel_numbered e r input work at value code) ∙ done) in
    point_numbered e (get_or r.dims axis 0) (get_or r.factors axis nan) r.order r.prefilter r.mode (get_or at axis 0) c n w ∙ ap number_in (taken r input (length value) (length code) (length work) at e q axis l p.one p.six p.six')
