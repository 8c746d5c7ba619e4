-- "At order 0 code 3 never occurs", whatever the shift or factor: refusal 9 stands where the one voxel that is read would lie outside.
use Prim.Native.Nat.{ℕ, ◌<◌}
use native.Mathlib.Omega.{arith}
use mathlib.Core.Path.{◌≡◌, sym, ap, ◌∙◌, subst}
use mathlib.Core.Logic.{⊎_elim}
use mathlib.Core.Bool.{Bool, true, false, ◌&&◌, ◌||◌, true≢false}
use mathlib.Core.List.{List}
use lib.Ieee.{Float}
use borrow.Author.Tests.{eq-eqb}
use Rattle.exact.specs.Rounded.{num}
use Rattle.lists.proofs.Somes.{none-at}
use Rattle.std.proofs.lemmas.Bool.{or_parts}
use Rattle.axis.specs.declared.coordinate.Axis.{Axis}
use Rattle.axis.specs.Coordinate.{pad_of}
use Rattle.axis.specs.Weights.{order_on}
use Rattle.axis.specs.Point.{beside_at, some_beside}
use Rattle.axis.specs.Folded.{folded_at}
use Rattle.axis.proofs.Coordinates.{low_pad}
use Rattle.axis.proofs.Points.{order_most}
use Rattle.axis.proofs.Folding.{Padded, order_0_unfolded}
use Rattle.refusal.specs.Refusals.{number_in}
use Rattle.coverage.specs.Coverage.{kept_at, own_code}
use Rattle.axis.specs.Bookkeeping.{Reaches}
use Rattle.request.specs.declared.Request.{Request}
use Rattle.request.specs.Conditions.{beside_any}
use Rattle.promises.specs.Entries.{Entry, shifting, zooming, call, axes_of, output_dims}
use Rattle.promises.specs.Place.{Inside, code}
use Rattle.promises.proofs.Given.{success_exactly}
use Rattle.promises.proofs.Succeeding.{succeeds}
use Rattle.promises.proofs.Places.{code_is}
use Rattle.promises.proofs.Marked.{admits, three_exactly}

module _ (r : Request) (input output : List Float) (coverage : List ℕ) (work : List Float) where
  -- refusal 9 did not meet the call
  clear : (e : Entry) → number_in (call e r input output coverage work).answer ≡ 0 → beside_any r (axes_of e r) ≡ false
  clear shifting done = (success_exactly shifting r input output coverage work).0 done 9
  clear zooming done = (success_exactly zooming r input output coverage work).0 done 9

  module _ (zero : r.order ≡ 0) where
    -- one axis of it
    axis_never : {a : Axis} {length : ℕ} → Padded a length (pad_of r.mode r.prefilter r.order length) → Reaches r.order a → some_beside r.mode a ≡ false → (i : ℕ) → i < a.out → kept_at r.mode a i ≡ true → folded_at r.order r.mode a i ≡ true → ⊥
    unfolding kept_at some_beside
    axis_never {a} {length} b reaches beside i l k f =
        let none = low_pad r.mode r.prefilter r.order length (omega (arith, zero)) in
        let pad : a.pad ≡ num 0 = subst (λ (p : ℕ). a.pad ≡ num p) none b.stands in
        let zeroth : order_on a.len r.order ≡ 0 = omega (arith, order_most a.len r.order {k = 0} (omega (arith, zero))) in
        true≢false (sym f ∙ order_0_unfolded r.order r.mode a i zeroth pad (reaches.each i l) k (none-at (beside_at r.mode a) a.out beside i l))

    pub order_0_never_folds : (e : Entry) → number_in (call e r input output coverage work).answer ≡ 0 → (i j k : ℕ) → Inside (output_dims e r) i j k → code (output_dims e r) (call e r input output coverage work).coverage i j k ≡ 3 → ⊥
    unfolding own_code beside_any
    order_0_never_folds e done i j k h c =
        let s = succeeds r input output coverage work e done in
        let p = s.passes.admitted in
        let a = axes_of e r in
        let m = r.mode in
        let b = admits e r p.lengths in
        let none : (some_beside m a.x || some_beside m a.y || some_beside m a.z) ≡ false = ap (λ (t : Bool). t && (some_beside m a.x || some_beside m a.y || some_beside m a.z)) (sym (eq-eqb r.order 0 zero)) ∙ clear e done in
        let xy = or_parts (some_beside m a.x || some_beside m a.y) (some_beside m a.z) none in
        let x = or_parts (some_beside m a.x) (some_beside m a.y) xy.0 in
        let q = (three_exactly m (kept_at m a.x i) (kept_at m a.y j) (kept_at m a.z k) (folded_at r.order m a.x i) (folded_at r.order m a.y j) (folded_at r.order m a.z k)).0 (sym (code_is e r input output coverage work s i j k h) ∙ c) in
        ⊎_elim (axis_never b.x p.x x.0 i h.x q.0.0)
        (⊎_elim (axis_never b.y p.y x.1 j h.y q.0.1) (axis_never b.z p.z xy.1 k h.z q.0.2))
        q.1
