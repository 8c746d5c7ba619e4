-- The voxel x, y, z of a volume that is given place by place.
use Prim.Native.Nat.{ℕ, ◌+◌, ◌*◌, ◌/◌, ◌%◌, ◌<◌}
use native.Mathlib.Nat.{mod-lt, div-add-mod', div-lt_iff_lt-mul}
use native.Mathlib.Omega.{arith}
use mathlib.Core.Path.{◌≡◌, ap, subst, ◌∙◌}
use mathlib.Core.List.{List}
use lib.Arith.{digits_lt, digits_div, digits_mod}
use lib.ListN.{get_or}
use lib.Ieee.{Float, nan}
use Rattle.lists.specs.Tabulate.{tabulate}
use Rattle.lists.proofs.Tabulated.{get_d_tabulate}
use Rattle.lists.proofs.Stretches.{some_place}
use Rattle.coverage.specs.Coverage.{x_of, y_of, z_of, own_code, own_codes}
use Rattle.voxels.specs.Voxel.{voxel_at, values}
use Rattle.border.specs.declared.BorderMode.{BorderMode}
use Rattle.axis.specs.declared.coordinate.Axis.{Axis}
use Rattle.request.specs.declared.Request.{Request}
use Rattle.resample.specs.Call.{Call, coefficients}
use Rattle.promises.specs.Entries.{Entry, call, axes_of, output_dims}
use Rattle.promises.specs.Place.{place_of, Inside, voxel, code}
use Rattle.promises.proofs.Succeeding.{Succeeds}

at_place :
    {A : Type 0} (f : ℕ → ℕ → ℕ → A) (d : A) (nx ny nz i j k : ℕ) → i < nx → j < ny → k < nz →
    get_or (tabulate (nx * (ny * nz)) (λ m. f (x_of (ny * nz) m) (y_of (ny * nz) nz m) (z_of (ny * nz) nz m))) (i * (ny * nz) + (j * nz + k)) d ≡ f i j k
at_place f d nx ny nz i j k hi hj hk =
    let plane = ny * nz in
    let in_plane : j * nz + k < plane = digits_lt hj hk in
    get_d_tabulate (nx * plane) (λ m. f (x_of plane m) (y_of plane nz m) (z_of plane nz m)) d (i * plane + (j * nz + k)) (digits_lt hi in_plane)
    ∙ (λ t. f (digits_div i in_plane t) (y_of plane nz (i * plane + (j * nz + k))) (z_of plane nz (i * plane + (j * nz + k))))
    ∙ (λ t. f i (digits_mod i in_plane t / nz) (digits_mod i in_plane t % nz))
    ∙ (λ t. f i (digits_div j hk t) (digits_mod j hk t))

-- each place is that of some x, y, z
pub each_place : (d : List ℕ) (P : ℕ → Type 0) → ((i j k : ℕ) → Inside d i j k → P (place_of d i j k)) → (m : ℕ) → m < get_or d 0 0 * (get_or d 1 0 * get_or d 2 0) → P m
each_place d P h m l =
    let row = get_or d 2 0 in
    let plane = get_or d 1 0 * row in
    let some : 0 < plane = some_place (get_or d 0 0) plane l in
    let q = m % plane in
    let below : q < plane = mod-lt m some in
    let some' : 0 < row = some_place (get_or d 1 0) row below in
    let own : m / plane * plane + (q / row * row + q % row) ≡ m = omega (arith, div-add-mod' m plane, div-add-mod' q row) in
    subst P own (h (m / plane) (q / row) (q % row) (record { x = (div-lt_iff_lt-mul some).1 l; y = (div-lt_iff_lt-mul some').1 below; z = mod-lt q some' }))

module _ (mode : BorderMode) (xa ya za : Axis) (i j k : ℕ) (hi : i < xa.out) (hj : j < ya.out) (hk : k < za.out) where
  code_at : (order : ℕ) → get_or (own_codes order mode xa ya za) (i * (ya.out * za.out) + (j * za.out + k)) 0 ≡ own_code order mode xa ya za i j k
  unfolding own_codes
  code_at order = at_place (own_code order mode xa ya za) 0 xa.out ya.out za.out i j k hi hj hk

  voxel-at : (order : ℕ) (xs : List Float) → get_or (values order mode xa ya za xs) (i * (ya.out * za.out) + (j * za.out + k)) nan ≡ voxel_at order mode xa ya za xs i j k
  unfolding values
  voxel-at order xs = at_place (voxel_at order mode xa ya za xs) nan xa.out ya.out za.out i j k hi hj hk

-- ---- of what a success writes
module _ (e : Entry) (r : Request) (input output : List Float) (coverage : List ℕ) (work : List Float) (s : Succeeds e r input output coverage work) (i j k : ℕ) (h : Inside (output_dims e r) i j k) where
  pub code_is : code (output_dims e r) (call e r input output coverage work).coverage i j k ≡ own_code r.order r.mode (axes_of e r).x (axes_of e r).y (axes_of e r).z i j k
  code_is = ap (λ (c : Call). code (output_dims e r) c.coverage i j k) s.writes ∙ code_at r.mode (axes_of e r).x (axes_of e r).y (axes_of e r).z i j k h.x h.y h.z r.order

  pub voxel_is : voxel (output_dims e r) (call e r input output coverage work).output i j k ≡ voxel_at r.order r.mode (axes_of e r).x (axes_of e r).y (axes_of e r).z (coefficients r input) i j k
  voxel_is = ap (λ (c : Call). voxel (output_dims e r) c.output i j k) s.writes ∙ voxel-at r.mode (axes_of e r).x (axes_of e r).y (axes_of e r).z i j k h.x h.y h.z r.order (coefficients r input)
