-- #106: an axis of length 1 that refusal 12 lets pass is read at its one voxel alone; 12 is given exactly where document 02 says; and the filters copy along such an axis.
use Prim.Native.Nat.{ℕ, zero, suc, ◌≤◌, ◌<◌}
use native.Mathlib.Omega.{arith}
use mathlib.Core.Path.{◌≡◌, refl, sym, ap, ◌∙◌, subst}
use mathlib.Core.Logic.{◌↔◌, ◌⊎◌, inl, inr}
use mathlib.Core.Bool.{Bool, true, false, not, ◌&&◌, cond}
use mathlib.Core.List.{List}
use lib.IntN.{ℤ, pos}
use lib.Dec.{eqb, ltb, lit≤}
use lib.ListN.{length, get_or}
use lib.Ieee.{Float, nan, eq}
use borrow.Author.Tests.{eqb-true, eqb-false, ne_eqb, not-true, not-false}
use Rattle.limits.specs.Limits.{single}
use Rattle.limits.proofs.Singles.{single_one, one_single, long_two}
use Rattle.exact.specs.Rounded.{num}
use Rattle.exact.specs.Whole.{Is}
use Rattle.exact.proofs.Value.{of_true}
use Rattle.exact.proofs.Is.{eq_is}
use Rattle.exact.proofs.Naturals.{num_is}
use Rattle.lists.proofs.Somes.{none-at, some_at, some_found}
use Rattle.axis.specs.Length.{output_length}
use Rattle.axis.proofs.Coordinates.{single_pad}
use Rattle.axis.proofs.Singles.{Lone, lone_settled, lone_kept, lone_beside, lone_point, lone_unfolded, shift_lone, zoom_lone}
use Rattle.prefilter.specs.Volume.{filter_axis, filter_volume}
use Rattle.prefilter.proofs.Axes.{along-single}
use Rattle.coverage.specs.Coverage.{kept_at}
use Rattle.request.specs.declared.Request.{Request}
use Rattle.request.specs.Sizes.{padding, zoom_dims}
use Rattle.request.specs.Bookkeeping.{Lengths}
use Rattle.request.specs.Conditions.{moves_slice, moves_slices, zooms_slice, zooms_slices}
use Rattle.refusal.specs.Refusals.{first, number_in}
use Rattle.resample.specs.Call.{FilterCall, filter_call_by, spline_filter_call, spline_filter1d_call}
use Rattle.promises.specs.Entries.{Entry, shifting, zooming, Filter, whole, along, call, checks, axes_of, axis_at, output_dims, filter_call, filter_checks}
use Rattle.promises.specs.Given.{holds, earlier}
use Rattle.promises.specs.Place.{Inside}
use Rattle.promises.specs.Slices.{Slice, SomeChanged, OneVoxel}
use Rattle.promises.proofs.Given.{both, refusal_exactly, success_exactly, some_number, filter_numbered}
use Rattle.promises.proofs.Succeeding.{succeeds}
use Rattle.std.specs.Prelude.{Result, Ok, Err, ⊤}
use Rattle.refusal.specs.declared.Refusal.{Refusal}

module _ (r : Request) where
  pub outs : (c : ℕ) → c < 3 → get_or (zoom_dims r) c 0 ≡ output_length (get_or r.dims c 0) (get_or r.factors c nan)
  outs zero l = refl
  outs (suc zero) l = refl
  outs (suc (suc zero)) l = refl
  outs (suc (suc (suc n))) l = absurd (omega arith)

  -- ---- what refusal 12 asks
  abbrev pub moves : Entry → Bool
  moves shifting = moves_slices r.dims r.factors
  moves zooming = zooms_slices r.dims (zoom_dims r)

  of_slice : {n : ℕ} (test : Bool) → n ≡ 1 → (single n && test) ≡ test
  of_slice {n} test one = ap (λ (b : Bool). b && test) (one_single n one)

  moves_exactly : (e : Entry) → (moves e ≡ true) ↔ SomeChanged e r
  unfolding moves_slices zooms_slices
  moves_exactly shifting = (
    λ e.
        let f = some_found (λ (c : ℕ). moves_slice (get_or r.dims c 0) (get_or r.factors c nan)) 3 e in
        let h = both (single (get_or r.dims f.0 0)) (not (eq (get_or r.factors f.0 nan) (num 0))) f.2 in
        (f.0, (f.1, single_one _ h.0), not-true _ h.1),
    λ s. some_at (λ (c : ℕ). moves_slice (get_or r.dims c 0) (get_or r.factors c nan)) 3 s.0 s.1.0 (of_slice (not (eq (get_or r.factors s.0 nan) (num 0))) s.1.1 ∙ ap not s.2),
  )
  moves_exactly zooming = (
    λ e.
        let f = some_found (λ (c : ℕ). zooms_slice (get_or r.dims c 0) (get_or (zoom_dims r) c 0)) 3 e in
        let h = both (single (get_or r.dims f.0 0)) (not (eqb (get_or (zoom_dims r) f.0 0) 1)) f.2 in
        let one = single_one _ h.0 in
        (f.0, (f.1, one), λ q. eqb-false _ 1 (not-true _ h.1) (outs f.0 f.1 ∙ ap (λ (n : ℕ). output_length n (get_or r.factors f.0 nan)) one ∙ q)),
    λ s. some_at (λ (c : ℕ). zooms_slice (get_or r.dims c 0) (get_or (zoom_dims r) c 0)) 3 s.0 s.1.0 (of_slice (not (eqb (get_or (zoom_dims r) s.0 0) 1)) s.1.1 ∙ ap not (ne_eqb _ 1 (λ q. s.2 (sym (outs s.0 s.1.0 ∙ ap (λ (n : ℕ). output_length n (get_or r.factors s.0 nan)) s.1.1) ∙ q)))),
  )

  -- ---- an axis that it lets pass
  lone : (e : Entry) → moves e ≡ false → (c : ℕ) → Slice r c → (i : ℕ) → i < (axis_at e r c).out → Lone (axis_at e r c) i
  unfolding moves_slices zooms_slices
  lone shifting m c (l, one) i h =
      let none = none-at (λ (c : ℕ). moves_slice (get_or r.dims c 0) (get_or r.factors c nan)) 3 m c l in
      let z : i ≡ 0 = omega arith in
      subst (λ (i : ℕ). Lone (axis_at shifting r c) i) (sym z) (shift_lone (get_or r.factors c nan) (padding r c) one (single_pad r.mode r.prefilter r.order _ (one_single _ one)) (not-false _ (sym (of_slice (not (eq (get_or r.factors c nan) (num 0))) one) ∙ none)))
  lone zooming m c (l, one) i h =
      let none = none-at (λ (c : ℕ). zooms_slice (get_or r.dims c 0) (get_or (zoom_dims r) c 0)) 3 m c l in
      let out : output_length (get_or r.dims c 0) (get_or r.factors c nan) ≡ 1 = sym (outs c l) ∙ eqb-true _ 1 (not-false _ (sym (of_slice (not (eqb (get_or (zoom_dims r) c 0) 1)) one) ∙ none)) in
      let z : i ≡ 0 = omega (arith, out, h) in
      subst (λ (i : ℕ). Lone (axis_at zooming r c) i) (sym z) (zoom_lone _ (padding r c) one (single_pad r.mode r.prefilter r.order _ (one_single _ one)))

  -- its whole shift is 0
  pub slice_still : moves_slices r.dims r.factors ≡ false → (c : ℕ) → c < 3 → {z : ℤ} → Is (get_or r.factors c nan) z → get_or r.dims c 0 ≡ 1 → z ≡ pos 0
  unfolding moves_slices
  slice_still m c l is one =
      let none = none-at (λ (c : ℕ). moves_slice (get_or r.dims c 0) (get_or r.factors c nan)) 3 m c l in
      eq_is is (num_is 0 (lit≤ tt)) (of_true (eq (get_or r.factors c nan) (num 0)) (not-false (eq (get_or r.factors c nan) (num 0)) (sym (of_slice (not (eq (get_or r.factors c nan) (num 0))) one) ∙ none)))

  -- it is longer, or such a slice
  pub longer_or_lone : (e : Entry) → moves e ≡ false → Lengths r.dims → (c : ℕ) → c < 3 → (i : ℕ) → i < (axis_at e r c).out → (2 ≤ get_or r.dims c 0) ⊎ Lone (axis_at e r c) i
  longer_or_lone e m d c l i h = go (single (get_or r.dims c 0)) refl
    where
      go : (t : Bool) → single (get_or r.dims c 0) ≡ t → (2 ≤ get_or r.dims c 0) ⊎ Lone (axis_at e r c) i
      go true s = inr (lone e m c (l, single_one _ s) i h)
      go false s = inl (long_two _ s (d c l).0)

-- ---- the promises of `shift` and `zoom`
module _ (e : Entry) (r : Request) (input output : List Float) (coverage : List ℕ) (work : List Float) where
  twelfth : holds (checks e r input (length output) (length coverage) (length work)) 12 ≡ moves r e
  twelfth = elim e as (λ (k : Entry). holds (checks k r input (length output) (length coverage) (length work)) 12 ≡ moves r k) [ shifting ↦ refl | zooming ↦ refl ]

  -- 12 exactly where some single slice is changed and refusals 1, 3 and 4 do not apply
  pub twelve_exactly : let tests = checks e r input (length output) (length coverage) (length work) in
      (number_in (call e r input output coverage work).answer ≡ 12) ↔ (((n : ℕ) → holds (earlier tests 12) n ≡ false) × SomeChanged e r)
  twelve_exactly =
      let given = refusal_exactly e r input output coverage work 12 (lit≤ tt) in (
        λ q. let h = given.0 q in (h.before, (moves_exactly r e).0 (sym twelfth ∙ h.this)),
        λ h. given.1 (record { this = twelfth ∙ (moves_exactly r e).1 h.1; before = h.0 }),
      )

  module _ (done : number_in (call e r input output coverage work).answer ≡ 0) where
    pub unchanged : moves r e ≡ false
    unchanged = sym twelfth ∙ (success_exactly e r input output coverage work).0 done 12

    -- every output index of a single slice
    pub slice_reads : (c : ℕ) → Slice r c → (i : ℕ) → i < (axis_at e r c).out → OneVoxel r (axis_at e r c) i
    unfolding kept_at
    slice_reads c s i h =
        let l = lone r e unchanged c s i h in
        record { zeroth = lone_settled r.mode l; kept = lone_kept r.mode l; beside = lone_beside r.mode l; folded = lone_unfolded r.mode l r.order; reads = lone_point r.mode l r.order }

-- so of each axis of a success: it is longer, or such a slice
pub record EachAxis (e : Entry) (r : Request) (i j k : ℕ) : Type 0 where
  pub x : (2 ≤ get_or r.dims 0 0) ⊎ Lone (axes_of e r).x i
  pub y : (2 ≤ get_or r.dims 1 0) ⊎ Lone (axes_of e r).y j
  pub z : (2 ≤ get_or r.dims 2 0) ⊎ Lone (axes_of e r).z k

pub each_axis : (e : Entry) (r : Request) (input output : List Float) (coverage : List ℕ) (work : List Float) → number_in (call e r input output coverage work).answer ≡ 0 → (i j k : ℕ) → Inside (output_dims e r) i j k → EachAxis e r i j k
each_axis shifting r input output coverage work done i j k h =
    let one = longer_or_lone r shifting (unchanged shifting r input output coverage work done) (succeeds r input output coverage work shifting done).passes.admitted.lengths in
    record { x = one 0 (lit≤ tt) i h.x; y = one 1 (lit≤ tt) j h.y; z = one 2 (lit≤ tt) k h.z }
each_axis zooming r input output coverage work done i j k h =
    let one = longer_or_lone r zooming (unchanged zooming r input output coverage work done) (succeeds r input output coverage work zooming done).passes.admitted.lengths in
    record { x = one 0 (lit≤ tt) i h.x; y = one 1 (lit≤ tt) j h.y; z = one 2 (lit≤ tt) k h.z }

-- ---- the filters
module _ (r : Request) (input output : List Float) where
  made : (f : Filter) → number_in (filter_call f r input output).answer ≡ 0 → (filtered : List Float) → filter_call f r input output ≡ filter_call_by (first (filter_checks f r input (length output))) filtered output → (filter_call f r input output).output ≡ filtered
  made f done filtered e = ap (λ (c : FilterCall). c.output) e ∙ go (first (filter_checks f r input (length output))) (sym (filter_numbered f r input output) ∙ done)
    where
      go : (v : Result ⊤ Refusal) → number_in v ≡ 0 → (filter_call_by v filtered output).output ≡ filtered
      go (Ok tt) q = refl
      go (Err why) q = absurd (some_number why q)

  -- `spline_filter1d` along a single slice
  pub slice_copied : (c : ℕ) → Slice r c → number_in (filter_call (along c) r input output).answer ≡ 0 → (filter_call (along c) r input output).output ≡ input
  unfolding spline_filter1d_call
  slice_copied c (l, one) done = made (along c) done _ refl ∙ go (ltb 1 r.order)
    where
      go : (t : Bool) → cond t (filter_axis r.mode r.order r.dims c input) input ≡ input
      go true = along-single r.mode r.order r.dims c input (one_single _ one)
      go false = refl

  -- `spline_filter` of one voxel
  pub voxel_copied : Slice r 0 → Slice r 1 → Slice r 2 → number_in (filter_call whole r input output).answer ≡ 0 → (filter_call whole r input output).output ≡ input
  unfolding spline_filter_call filter_volume
  voxel_copied x y z done =
      let along : (c : ℕ) → Slice r c → (xs : List Float) → filter_axis r.mode r.order r.dims c xs ≡ xs = λ c s xs. along-single r.mode r.order r.dims c xs (one_single _ s.1) in
      made whole done _ refl ∙ along 2 z _ ∙ along 1 y _ ∙ along 0 x input
