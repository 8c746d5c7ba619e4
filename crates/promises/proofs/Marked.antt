-- Code 0 exactly where all three axes are kept and every neighbour that counts lies inside the unpadded axis, 3 exactly where all three are kept and one lies outside; where it is 1 the mode is Constant and the voxel is its fill, bit for bit; where it is 2 the mode is another and the voxel is 0.0.
use Prim.Native.Nat.{ℕ, ◌*◌, ◌≤◌}
use native.Mathlib.Omega.{arith}
use mathlib.Core.Path.{◌≡◌, refl, sym, subst}
use mathlib.Core.Logic.{◌↔◌, ◌⊎◌, inl, inr, ⊎_elim, ⊎_map}
use mathlib.Core.Bool.{Bool, true, false, ◌&&◌, ◌||◌, cond, true≢false}
use mathlib.Core.List.{List}
use lib.Dec.{lit≤, lit<}
use lib.ListN.{get_or}
use lib.Ieee.{Float}
use Rattle.exact.specs.Rounded.{num}
use Rattle.border.specs.declared.BorderMode.{BorderMode}
use Rattle.border.specs.declared.BorderMode.TheVariants.{Constant, Mirror, Nearest, Reflect, Wrap, Replicate}
use Rattle.axis.specs.declared.coordinate.Axis.{Axis}
use Rattle.axis.specs.Coordinate.{shift_axis, zoom_axis}
use Rattle.axis.specs.Point.{point_at}
use Rattle.axis.specs.Bookkeeping.{Reached}
use Rattle.axis.specs.Folded.{folded_at}
use Rattle.axis.proofs.Folding.{Padded, folded_outside, inside_unfolded, unfolded_inside, outside_folded}
use Rattle.refusal.specs.Refusals.{number_in}
use Rattle.coverage.specs.Coverage.{own_code, code_by, drop_code, drop_value, kept_at}
use Rattle.voxels.specs.Voxel.{tap_of, computed, voxel_at}
use Rattle.request.specs.declared.Request.{Request}
use Rattle.request.specs.Sizes.{padding}
use Rattle.request.specs.Bookkeeping.{Lengths}
use Rattle.request.proofs.Requests.{padding_most}
use Rattle.resample.specs.Call.{coefficients}
use Rattle.promises.specs.Entries.{Entry, shifting, zooming, call, axes_of, output_dims}
use Rattle.promises.specs.Place.{Inside, voxel, code}
use Rattle.promises.specs.Marks.{pad_on, FromInside, FromOutside, Means}
use Rattle.promises.proofs.Succeeding.{Succeeds, succeeds}
use Rattle.promises.proofs.Places.{code_is, voxel_is}

-- ---- what a dropped voxel bears
abbrev IsConstant : BorderMode → Type 0
IsConstant (Constant fill) = Unit
IsConstant Mirror = ⊥
IsConstant Nearest = ⊥
IsConstant Reflect = ⊥
IsConstant Wrap = ⊥
IsConstant Replicate = ⊥

not_constant : {mode : BorderMode} → (IsConstant mode → ⊥) → (fill : Float) → mode ≡ Constant fill → ⊥
not_constant n fill e = n (subst IsConstant (sym e) tt)

record Drops (mode : BorderMode) : Type 0 where
  some : 1 ≤ drop_code mode
  upto : drop_code mode ≤ 2
  filled : drop_code mode ≡ 1 → mode ≡ Constant (drop_value mode)
  defaulted : drop_code mode ≡ 2 → ((fill : Float) → mode ≡ Constant fill → ⊥) × (drop_value mode ≡ num 0)

drops : (mode : BorderMode) → Drops mode
drops (Constant fill) = record { some = lit≤ tt; upto = lit≤ tt; filled = λ e. refl; defaulted = λ e. absurd (omega (arith, e)) }
drops Mirror = record { some = lit≤ tt; upto = lit≤ tt; filled = λ e. absurd (omega (arith, e)); defaulted = λ e. (not_constant (λ b. b), refl) }
drops Nearest = record { some = lit≤ tt; upto = lit≤ tt; filled = λ e. absurd (omega (arith, e)); defaulted = λ e. (not_constant (λ b. b), refl) }
drops Reflect = record { some = lit≤ tt; upto = lit≤ tt; filled = λ e. absurd (omega (arith, e)); defaulted = λ e. (not_constant (λ b. b), refl) }
drops Wrap = record { some = lit≤ tt; upto = lit≤ tt; filled = λ e. absurd (omega (arith, e)); defaulted = λ e. (not_constant (λ b. b), refl) }
drops Replicate = record { some = lit≤ tt; upto = lit≤ tt; filled = λ e. absurd (omega (arith, e)); defaulted = λ e. (not_constant (λ b. b), refl) }

-- ---- the code by what three axes say: each keeps the voxel or not, each is folded or not
abbrev AllOf : Bool → Bool → Bool → Bool → Type 0
AllOf b x y z = (x ≡ b) × (y ≡ b) × (z ≡ b)

abbrev OneOf : Bool → Bool → Bool → Bool → Type 0
OneOf b x y z = (x ≡ b) ⊎ (y ≡ b) ⊎ (z ≡ b)

module _ (mode : BorderMode) where
  not-zero : drop_code mode ≡ 0 → ⊥
  not-zero e = omega (arith, (drops mode).some)

  not_three : drop_code mode ≡ 3 → ⊥
  not_three e = omega (arith, (drops mode).upto)

  zero_exactly : (x y z f g h : Bool) → (code_by mode (x && y && z) (f || g || h) ≡ 0) ↔ (AllOf true x y z × AllOf false f g h)
  zero_exactly false y z f g h = (λ e. absurd (not-zero e), λ p. absurd (true≢false (sym p.0.0)))
  zero_exactly true false z f g h = (λ e. absurd (not-zero e), λ p. absurd (true≢false (sym p.0.1)))
  zero_exactly true true false f g h = (λ e. absurd (not-zero e), λ p. absurd (true≢false (sym p.0.2)))
  zero_exactly true true true true g h = (λ e. absurd (omega (arith, e)), λ p. absurd (true≢false p.1.0))
  zero_exactly true true true false true h = (λ e. absurd (omega (arith, e)), λ p. absurd (true≢false p.1.1))
  zero_exactly true true true false false true = (λ e. absurd (omega (arith, e)), λ p. absurd (true≢false p.1.2))
  zero_exactly true true true false false false = (λ e. ((refl, refl, refl), (refl, refl, refl)), λ p. refl)

  pub three_exactly : (x y z f g h : Bool) → (code_by mode (x && y && z) (f || g || h) ≡ 3) ↔ (AllOf true x y z × OneOf true f g h)
  three_exactly false y z f g h = (λ e. absurd (not_three e), λ p. absurd (true≢false (sym p.0.0)))
  three_exactly true false z f g h = (λ e. absurd (not_three e), λ p. absurd (true≢false (sym p.0.1)))
  three_exactly true true false f g h = (λ e. absurd (not_three e), λ p. absurd (true≢false (sym p.0.2)))
  three_exactly true true true true g h = (λ e. ((refl, refl, refl), inl refl), λ p. refl)
  three_exactly true true true false true h = (λ e. ((refl, refl, refl), inr (inl refl)), λ p. refl)
  three_exactly true true true false false true = (λ e. ((refl, refl, refl), inr (inr refl)), λ p. refl)
  three_exactly true true true false false false = (λ e. absurd (omega (arith, e)), λ p. absurd (⊎_elim (λ q. true≢false (sym q)) (⊎_elim (λ q. true≢false (sym q)) (λ q. true≢false (sym q))) p.1))

  pub upto_three : (all some : Bool) → code_by mode all some ≤ 3
  upto_three true true = lit≤ tt
  upto_three true false = lit≤ tt
  upto_three false some = omega (arith, (drops mode).upto)

  -- where it is 1 or 2
  fills : (all some : Bool) (v : Float) → code_by mode all some ≡ 1 → mode ≡ Constant (cond all v (drop_value mode))
  fills true true v e = absurd (omega (arith, e))
  fills true false v e = absurd (omega (arith, e))
  fills false some v e = (drops mode).filled e

  defaults : (all some : Bool) (v : Float) → code_by mode all some ≡ 2 → ((fill : Float) → mode ≡ Constant fill → ⊥) × (cond all v (drop_value mode) ≡ num 0)
  defaults true true v e = absurd (omega (arith, e))
  defaults true false v e = absurd (omega (arith, e))
  defaults false some v e = (drops mode).defaulted e

-- ---- one axis: its tests in whole numbers
module _ (r : Request) {a : Axis} {length : ℕ} (b : Padded a length (pad_on r length)) (i : ℕ) (reached : Reached r.order a i) where
  axis_inside : kept_at r.mode a i ≡ true → (folded_at r.order r.mode a i ≡ false) ↔ FromInside r length a i
  unfolding kept_at
  axis_inside k = (unfolded_inside r.order r.mode b i reached k, inside_unfolded r.order r.mode b i)

  axis-outside : kept_at r.mode a i ≡ true → (folded_at r.order r.mode a i ≡ true) ↔ FromOutside r length a i
  unfolding kept_at
  axis-outside k = (folded_outside r.order r.mode b i, outside_folded r.order r.mode b i reached k)

-- ---- the promise of `shift` and `zoom`
padded_shift : (length pad : ℕ) (shift : Float) → length ≤ 4096 → pad ≤ 12 → Padded (shift_axis length shift pad) length pad
padded_shift length pad shift l p = record { long = refl; stands = refl; short = omega arith }

padded_zoom : (length out pad : ℕ) → length ≤ 4096 → pad ≤ 12 → Padded (zoom_axis length out pad) length pad
padded_zoom length out pad l p = record { long = refl; stands = refl; short = omega arith }

-- the axes of a request that refusal 3 lets pass
pub record Admits (e : Entry) (r : Request) : Type 0 where
  pub x : Padded (axes_of e r).x (get_or r.dims 0 0) (padding r 0)
  pub y : Padded (axes_of e r).y (get_or r.dims 1 0) (padding r 1)
  pub z : Padded (axes_of e r).z (get_or r.dims 2 0) (padding r 2)

pub admits : (e : Entry) (r : Request) → Lengths r.dims → Admits e r
admits shifting r d =
    let p : (c : ℕ) → padding r c ≤ 12 = λ c. padding_most r c refl in
    record { x = padded_shift _ _ _ (d 0 (lit< tt)).1 (p 0); y = padded_shift _ _ _ (d 1 (lit< tt)).1 (p 1); z = padded_shift _ _ _ (d 2 (lit< tt)).1 (p 2) }
admits zooming r d =
    let p : (c : ℕ) → padding r c ≤ 12 = λ c. padding_most r c refl in
    record { x = padded_zoom _ _ _ (d 0 (lit< tt)).1 (p 0); y = padded_zoom _ _ _ (d 1 (lit< tt)).1 (p 1); z = padded_zoom _ _ _ (d 2 (lit< tt)).1 (p 2) }

module _ (e : Entry) (r : Request) (input output : List Float) (coverage : List ℕ) (work : List Float) (done : number_in (call e r input output coverage work).answer ≡ 0) (i j k : ℕ) (h : Inside (output_dims e r) i j k) where
  abbrev x : Axis
  x = (axes_of e r).x

  abbrev y : Axis
  y = (axes_of e r).y

  abbrev z : Axis
  z = (axes_of e r).z

  abbrev m : BorderMode
  m = r.mode

  abbrev all : Bool
  all = kept_at m x i && kept_at m y j && kept_at m z k

  abbrev some : Bool
  some = folded_at r.order m x i || folded_at r.order m y j || folded_at r.order m z k

  abbrev value : Float
  value = computed r.order (coefficients r input) (y.len * z.len) z.len (tap_of (point_at r.order m x i)) (tap_of (point_at r.order m y j)) (tap_of (point_at r.order m z k))

  s : Succeeds e r input output coverage work
  s = succeeds r input output coverage work e done

  own : Means r (axes_of e r) i j k (code_by m all some) (cond all value (drop_value m))
  own =
      let p = s.passes.admitted in
      let b = admits e r p.lengths in
      let ix = axis_inside r b.x i (p.x.each i h.x) in
      let iy = axis_inside r b.y j (p.y.each j h.y) in
      let iz = axis_inside r b.z k (p.z.each k h.z) in
      let ox = axis-outside r b.x i (p.x.each i h.x) in
      let oy = axis-outside r b.y j (p.y.each j h.y) in
      let oz = axis-outside r b.z k (p.z.each k h.z) in
      let zero = zero_exactly m (kept_at m x i) (kept_at m y j) (kept_at m z k) (folded_at r.order m x i) (folded_at r.order m y j) (folded_at r.order m z k) in
      let three = three_exactly m (kept_at m x i) (kept_at m y j) (kept_at m z k) (folded_at r.order m x i) (folded_at r.order m y j) (folded_at r.order m z k) in
      record {
        upto = upto_three m all some;
        computed = (
          λ c. let q = zero.0 c in (q.0, ((ix q.0.0).0 q.1.0, (iy q.0.1).0 q.1.1, (iz q.0.2).0 q.1.2)),
          λ q. zero.1 (q.0, ((ix q.0.0).1 q.1.0, (iy q.0.1).1 q.1.1, (iz q.0.2).1 q.1.2)),
        );
        folded = (
          λ c. let q = three.0 c in (q.0, ⊎_map (ox q.0.0).0 (⊎_map (oy q.0.1).0 (oz q.0.2).0) q.1),
          λ q. three.1 (q.0, ⊎_map (ox q.0.0).1 (⊎_map (oy q.0.1).1 (oz q.0.2).1) q.1),
        );
        filled = fills m all some value;
        defaulted = defaults m all some value;
      }

  pub code_means : Means r (axes_of e r) i j k (code (output_dims e r) (call e r input output coverage work).coverage i j k) (voxel (output_dims e r) (call e r input output coverage work).output i j k)
  unfolding own_code voxel_at
  code_means =
      subst (λ (c : ℕ). Means r (axes_of e r) i j k c (voxel (output_dims e r) (call e r input output coverage work).output i j k)) (sym (code_is e r input output coverage work s i j k h))
      (subst (λ (v : Float). Means r (axes_of e r) i j k (code_by m all some) v) (sym (voxel_is e r input output coverage work s i j k h)) own)
