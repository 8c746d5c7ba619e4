-- "The new one is proved equal to the manual's rule at whole coordinates, with no exceptions": in Replicate, at orders 0 and 1, a voxel whose coordinates are whole is the input voxel that the manual lets stand there, as a number.
use Prim.Native.Nat.{ℕ, ◌*◌, ◌≤◌, ◌<◌}
use native.Mathlib.Nat.{le_trans, zero-add}
use native.Mathlib.Omega.{arith}
use mathlib.Core.Path.{◌≡◌, sym, ◌∙◌, subst}
use mathlib.Core.Logic.{◌⊎◌, ⊎_elim}
use mathlib.Core.Bool.{false, ◌||◌, cond}
use mathlib.Core.List.{List}
use lib.IntN.{ℤ, pos, ◌-ℤ◌}
use lib.Dec.{lit≤, lit<}
use lib.ListN.{length, get_or}
use lib.Ieee.{Float, nan}
use Rattle.exact.specs.Whole.{Is}
use Rattle.exact.specs.Same.{Same}
use Rattle.exact.proofs.Withins.{within_is}
use Rattle.std.proofs.lemmas.Bool.{or_parts}
use Rattle.border.specs.declared.BorderMode.{BorderMode}
use Rattle.border.specs.declared.BorderMode.TheVariants.{Replicate}
use Rattle.border.specs.Manual.{Stands}
use Rattle.border.proofs.Once.{stands_once}
use Rattle.axis.specs.declared.coordinate.Axis.{Axis}
use Rattle.axis.specs.Coordinate.{unpadded, settled}
use Rattle.axis.specs.Point.{point_at}
use Rattle.axis.specs.Bookkeeping.{Reached}
use Rattle.axis.proofs.Coordinates.{low_pad}
use Rattle.axis.proofs.Folding.{Padded}
use Rattle.axis.proofs.Settling.{settled_lands}
use Rattle.axis.proofs.Singles.{Lone}
use Rattle.refusal.specs.Refusals.{number_in}
use Rattle.coverage.specs.Coverage.{drop_value}
use Rattle.voxels.specs.Voxel.{tap_of, computed, voxel_at}
use Rattle.request.specs.declared.Request.{Request}
use Rattle.request.specs.Sizes.{padding}
use Rattle.request.specs.Conditions.{wild_fill, some_wild}
use Rattle.resample.specs.Call.{shift_call}
use Rattle.promises.specs.Entries.{Entry, shifting, zooming, call, axes_of, output_dims}
use Rattle.promises.specs.Place.{Inside, voxel}
use Rattle.promises.specs.Marks.{pad_on}
use Rattle.promises.specs.Moves.{F64s, Whole}
use Rattle.promises.specs.Replicates.{WholeAt, StandsAt}
use Rattle.promises.proofs.Succeeding.{succeeds}
use Rattle.promises.proofs.Slices.{slice_still, unchanged, each_axis}
use Rattle.promises.proofs.Places.{voxel_is}
use Rattle.promises.proofs.Marked.{admits}
use Rattle.promises.proofs.Given.{success_exactly}
use Rattle.promises.proofs.Keeping.{all_kept}
use Rattle.promises.proofs.Replicated.{replicating_spans}
use Rattle.promises.proofs.OneVoxel.{Holds}
use Rattle.promises.proofs.WholePoint.{Names, whole_names, lone_names}
use Rattle.promises.proofs.WholeShift.{Shifts, unpadded_is}
use Rattle.promises.proofs.WholeRequest.{plain_input, not-wild}
use Rattle.promises.proofs.WholeVoxel.{Finite, reads}

-- ---- one axis without a pad: voxel x, and nothing else that counts, is read
axis_names : (a : Axis) (length : ℕ) → Padded a length 0 → 2 ≤ length → (i : ℕ) (n : ℤ) → Is (unpadded a i) n → (x : ℕ) → Stands Replicate length n x → (order : ℕ) → order ≤ 1 → Reached order a i → Names order length x (point_at order Replicate a i)
axis_names a length b two i n is x stands order low r =
    let v = (settled_lands Replicate false 0 tt b two i n is (le_trans (within_is r.bound is) (lit≤ tt))).follows (λ z. z) in
    let once = stands_once Replicate length n two in
    let e : v.0 ≡ x = once.only v.0 v.1 ∙ sym (once.only x stands) in
    let to : Is (settled Replicate a i) (pos x) = subst (λ (k : ℕ). Is (settled Replicate a i) (pos k)) (zero-add v.0 ∙ e) v.2 in
    let long = b.long in
    let l : a.len ≡ length = omega arith in
    subst (λ (L : ℕ). Names order L x (point_at order Replicate a i)) l (whole_names Replicate a i to (omega (arith, stands.voxel)) (omega arith) b.short order low)

-- ---- the promise of `shift` and `zoom`
module _ (e : Entry) (r : Request) (input output : List Float) (coverage : List ℕ) (work : List Float) (mode : r.mode ≡ Replicate) (low : r.order ≤ 1) (f64 : F64s input) (done : number_in (call e r input output coverage work).answer ≡ 0) where
  abbrev dim : ℕ → ℕ
  dim c = get_or r.dims c 0

  tame : Finite input
  tame = not-wild input (or_parts (wild_fill r.mode) (some_wild input) (eighth e done)).1
    where
      eighth : (e : Entry) → number_in (call e r input output coverage work).answer ≡ 0 → (wild_fill r.mode || some_wild input) ≡ false
      eighth shifting d = (success_exactly shifting r input output coverage work).0 d 8
      eighth zooming d = (success_exactly zooming r input output coverage work).0 d 8

  module _ (a : Axis) (length : ℕ) (b : Padded a length (pad_on r length)) where
    plain : Padded a length 0
    plain = subst (λ (pad : ℕ). Padded a length pad) (low_pad r.mode r.prefilter r.order length low) b

    length_is : a.len ≡ length
    length_is = omega (arith, plain.long)

    -- a single slice has its one voxel alone
    lone : {i : ℕ} → Lone a i → (x : ℕ) → x < length → Names r.order length x (point_at r.order r.mode a i)
    lone {i} l x lies =
        let one : 1 ≡ length = omega (arith, l.one, length_is) in
        let z : 0 ≡ x = omega arith in
        subst (λ (L : ℕ). Names r.order L x (point_at r.order r.mode a i)) one (subst (λ (y : ℕ). Names r.order 1 y (point_at r.order r.mode a i)) z (lone_names r.mode l r.order))

    names : (i : ℕ) → (2 ≤ length) ⊎ Lone a i → (n : ℤ) → Is (unpadded a i) n → (x : ℕ) → Stands Replicate length n x → Reached r.order a i → Names r.order length x (point_at r.order r.mode a i)
    names i which n is x s reached =
        ⊎_elim (λ two. subst (λ (m : BorderMode). Names r.order length x (point_at r.order m a i)) (sym mode) (axis_names a length plain two i n is x s r.order low reached)) (λ l. lone l x s.voxel) which

  pub replicate_repeats : (l m n : ℤ) (i j k x y z : ℕ) → Inside (output_dims e r) i j k → WholeAt (axes_of e r) l m n i j k → StandsAt r.dims l m n x y z → Same (voxel (output_dims e r) (call e r input output coverage work).output i j k) (voxel r.dims input x y z)
  unfolding voxel_at
  replicate_repeats l m n i j k x y z h w stands =
      let s = succeeds r input output coverage work e done in
      let p = s.passes.admitted in
      let b = admits e r p.lengths in
      let three = each_axis e r input output coverage work done i j k h in
      let px = point_at r.order r.mode (axes_of e r).x i in
      let py = point_at r.order r.mode (axes_of e r).y j in
      let pz = point_at r.order r.mode (axes_of e r).z k in
      let kept = all_kept (replicating_spans e r input output coverage work mode (λ n l. (success_exactly e r input output coverage work).0 done n)) i j k h in
      let value : voxel (output_dims e r) (call e r input output coverage work).output i j k ≡ computed r.order input (dim 1 * dim 2) (dim 2) (tap_of px) (tap_of py) (tap_of pz) = voxel_is e r input output coverage work s i j k h
      ∙ (λ t. cond (kept t) (computed r.order (plain_input r input low t) (length_is (axes_of e r).y (dim 1) b.y t * length_is (axes_of e r).z (dim 2) b.z t) (length_is (axes_of e r).z (dim 2) b.z t) (tap_of px) (tap_of py) (tap_of pz)) (drop_value r.mode)) in
      (subst (Holds (voxel r.dims input x y z)) (sym value)
      (reads input f64 tame (dim 0) (dim 1) (dim 2) x y z p.all px py pz r.order low
      (names (axes_of e r).x (dim 0) b.x i three.x l w.x x stands.x (p.x.each i h.x))
      (names (axes_of e r).y (dim 1) b.y j three.y m w.y y stands.y (p.y.each j h.y))
      (names (axes_of e r).z (dim 2) b.z k three.z n w.z z stands.z (p.z.each k h.z)))).same

-- of `shift` by whole numbers, whose coordinates are the indices less the shifts
pub whole_shift_repeats :
    (r : Request) (input output : List Float) (coverage : List ℕ) (work : List Float) (s : ℕ → ℤ) → r.mode ≡ Replicate → r.order ≤ 1 → Whole r s → F64s input → number_in (shift_call r input output coverage work).answer ≡ 0 →
    (i j k x y z : ℕ) → Inside r.dims i j k → StandsAt r.dims (pos i -ℤ s 0) (pos j -ℤ s 1) (pos k -ℤ s 2) x y z → Same (voxel r.dims (shift_call r input output coverage work).output i j k) (voxel r.dims input x y z)
whole_shift_repeats r input output coverage work s mode low whole f64 done i j k x y z h =
    let d = (succeeds r input output coverage work shifting done).passes.admitted.lengths in
    let shifts : (c : ℕ) → c < 3 → Shifts (get_or r.dims c 0) (get_or r.factors c nan) (s c) = λ c l. record { least = (d c l).0; still = slice_still r (unchanged shifting r input output coverage work done) c l (whole c l).0; most = (d c l).1; is = (whole c l).0; small = (whole c l).1 } in
    replicate_repeats shifting r input output coverage work mode low f64 done (pos i -ℤ s 0) (pos j -ℤ s 1) (pos k -ℤ s 2) i j k x y z (record { x = h.x; y = h.y; z = h.z })
    (record { x = unpadded_is (shifts 0 (lit< tt)) i h.x (padding r 0); y = unpadded_is (shifts 1 (lit< tt)) j h.y (padding r 1); z = unpadded_is (shifts 2 (lit< tt)) k h.z (padding r 2) })
