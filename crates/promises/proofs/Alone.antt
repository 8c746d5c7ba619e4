-- #105: one voxel asked for alone is the volume's, in value bits and code, "for every admitted request of every mode and order"; and where its refusals differ from the volume's: 11.
use Prim.Native.Nat.{ℕ, zero, suc, ◌<◌, ◌≤◌}
use native.Mathlib.Omega.{arith}
use mathlib.Core.Path.{◌≡◌, refl, sym, ap, ◌∙◌, subst}
use mathlib.Core.Logic.{◌↔◌}
use mathlib.Core.Bool.{Bool, true, false, not, ◌||◌}
use mathlib.Core.List.{List, [], ◌∷◌}
use lib.Dec.{lit≤}
use lib.ListN.{length, get_or}
use lib.Ieee.{Float}
use borrow.Author.Tests.{eq-eqb, le-ltb, lt-leb, leb-true, le-leb}
use Rattle.lists.specs.Some.{some_below}
use Rattle.lists.proofs.Somes.{some_none, some_at, some_found}
use Rattle.std.proofs.lemmas.Bool.{or_parts}
use Rattle.prefilter.specs.Volume.{count_of}
use Rattle.request.specs.declared.Request.{Request}
use Rattle.request.specs.Sizes.{filters, needed, zoom_dims}
use Rattle.request.specs.Conditions.{wrong, too_short, bad_index, bad_indices}
use Rattle.refusal.specs.declared.Refusal.TheVariants.{Index}
use Rattle.refusal.specs.Refusals.{when, first, number_in}
use Rattle.refusal.proofs.Firsts.{all_clear, clear_passes}
use Rattle.voxels.specs.Voxel.{voxel_at}
use Rattle.resample.specs.Call.{coefficients}
use Rattle.resample.proofs.Preparing.{unfiltered}
use Rattle.one_voxel.specs.Call.{VoxelCall, lent_source, voxel_of, voxel_call_of, voxel_call_by, shift_voxel_call, zoom_voxel_call}
use Rattle.one_voxel.proofs.Voxels.{from_work, from_input}
use Rattle.promises.specs.Entries.{Entry, shifting, zooming, call, checks, axes_of, output_dims, voxel_call, voxel_checks}
use Rattle.promises.specs.Given.{holds, earlier, FirstToHold, NoneBut}
use Rattle.promises.specs.Place.{Inside, voxel, code}
use Rattle.promises.specs.Alone.{Beyond, Lends}
use Rattle.promises.proofs.Given.{but_last, of_front, voxel_refusal_exactly}
use Rattle.promises.proofs.Succeeding.{by_verdict, succeeds}
use Rattle.promises.proofs.Places.{code_is, voxel_is}
use Rattle.promises.proofs.Working.{work_filtered}
use Rattle.std.specs.Prelude.{Result, Ok, ⊤}
use Rattle.refusal.specs.declared.Refusal.{Refusal}

-- ---- 11
-- what the last check asks
beyond_some : (d at : List ℕ) → (bad_indices d at ≡ true) ↔ Beyond d at
unfolding bad_indices
beyond_some d at = (
  λ e. let f = some_found (λ (i : ℕ). bad_index (get_or d i 0) (get_or at i 0)) 3 e in (f.0, f.1, leb-true _ _ f.2),
  λ b. some_at (λ (i : ℕ). bad_index (get_or d i 0) (get_or at i 0)) 3 b.0 b.1 (le-leb _ _ b.2),
)

module _ (r : Request) (input work : List Float) (at : List ℕ) (value : List Float) (code : List ℕ) where
  last_holds : (e : Entry) → holds (voxel_checks e r input (length value) (length code) (length work) at) 11 ≡ bad_indices (output_dims e r) at
  unfolding bad_indices some_below
  last_holds shifting = refl
  last_holds zooming = refl

  -- it is the last check
  last_out : (e : Entry) → let tests = voxel_checks e r input (length value) (length code) (length work) at in FirstToHold tests 11 → NoneBut tests 11
  last_out shifting h = but_last (earlier (voxel_checks shifting r input (length value) (length code) (length work) at) 11) (when Index (bad_indices r.dims at)) h.before
  last_out zooming h = but_last (earlier (voxel_checks zooming r input (length value) (length code) (length work) at) 11) (when Index (bad_indices (zoom_dims r) at)) h.before

  before_last : (e : Entry) → let tests = voxel_checks e r input (length value) (length code) (length work) at in NoneBut tests 11 → (m : ℕ) → holds (earlier tests 11) m ≡ false
  before_last shifting h = of_front (earlier (voxel_checks shifting r input (length value) (length code) (length work) at) 11) (when Index (bad_indices r.dims at)) refl h
  before_last zooming h = of_front (earlier (voxel_checks zooming r input (length value) (length code) (length work) at) 11) (when Index (bad_indices (zoom_dims r) at)) refl h

  -- exactly where an index is at or beyond its output length and no other refusal applies
  pub eleven_exactly : (e : Entry) → (number_in (voxel_call e r input work at value code).answer ≡ 11) ↔ (NoneBut (voxel_checks e r input (length value) (length code) (length work) at) 11 × Beyond (output_dims e r) at)
  eleven_exactly e =
      let given = voxel_refusal_exactly e r input work at value code 11 (lit≤ tt) in (
        λ q. let h = given.0 q in (last_out e h, (beyond_some (output_dims e r) at).0 (sym (last_holds e) ∙ h.this)),
        λ h. given.1 (record { this = last_holds e ∙ (beyond_some (output_dims e r) at).1 h.1; before = before_last e h.0 }),
      )

-- ---- what the volume engine takes is taken
one_place : {n : ℕ} → n ≡ 1 → wrong n 1 ≡ false
one_place e = ap not (eq-eqb _ _ e)

within : (d : List ℕ) (i j k : ℕ) → i < get_or d 0 0 → j < get_or d 1 0 → k < get_or d 2 0 → bad_indices d (i ∷ j ∷ k ∷ []) ≡ false
unfolding bad_indices
within d i j k x y z = some_none (λ (n : ℕ). bad_index (get_or d n 0) (get_or (i ∷ j ∷ k ∷ []) n 0)) 3 each
  where
    each : (n : ℕ) → n < 3 → bad_index (get_or d n 0) (get_or (i ∷ j ∷ k ∷ []) n 0) ≡ false
    each zero l = lt-leb _ _ x
    each (suc zero) l = lt-leb _ _ y
    each (suc (suc zero)) l = lt-leb _ _ z
    each (suc (suc (suc n))) l = absurd (omega arith)

module _ (r : Request) (input : List Float) (output coverage work : ℕ) (value code lent : ℕ) (one : value ≡ 1) (one' : code ≡ 1) (room : needed r ≤ lent) where
  -- refusal 7: the input as before, the others by what is known
  buffers : (places : ℕ) → (wrong (length input) (count_of r.dims) || wrong output places || wrong coverage places || too_short work (needed r)) ≡ false → (wrong (length input) (count_of r.dims) || wrong value 1 || wrong code 1 || too_short lent (needed r)) ≡ false
  buffers places e =
      let w = or_parts (wrong (length input) (count_of r.dims) || wrong output places || wrong coverage places) (too_short work (needed r)) e in
      let c = or_parts (wrong (length input) (count_of r.dims) || wrong output places) (wrong coverage places) w.0 in
      let i = (or_parts (wrong (length input) (count_of r.dims)) (wrong output places) c.0).0 in
      simp (i, one_place one, one_place one', le-ltb lent (needed r) room)

  taken : (e : Entry) (i j k : ℕ) → Inside (output_dims e r) i j k → first (checks e r input output coverage work) ≡ Ok tt → first (voxel_checks e r input value code lent (i ∷ j ∷ k ∷ [])) ≡ Ok tt
  taken shifting i j k inside e =
      let h = all_clear (checks shifting r input output coverage work) e in
      let rest = h.1.1.1.1 in
      clear_passes (voxel_checks shifting r input value code lent (i ∷ j ∷ k ∷ [])) (h.0, (h.1.0, (h.1.1.0, (h.1.1.1.0, (rest.0, (buffers _ rest.1.0, (rest.1.1.0, (rest.1.1.1.0, (within r.dims i j k inside.x inside.y inside.z, tt)))))))))
  taken zooming i j k inside e =
      let h = all_clear (checks zooming r input output coverage work) e in
      let rest = h.1.1.1.1.1 in
      clear_passes (voxel_checks zooming r input value code lent (i ∷ j ∷ k ∷ [])) (h.0, (h.1.0, (h.1.1.0, (h.1.1.1.0, (h.1.1.1.1.0, (rest.0, (buffers _ rest.1.0, (rest.1.1.0, (rest.1.1.1.0, (within (zoom_dims r) i j k inside.x inside.y inside.z, tt))))))))))

-- ---- what the sums read is what the engine reads
source_is : (r : Request) (input lent : List Float) → Lends r input lent → lent_source r input lent ≡ coefficients r input
source_is r input lent l = go (filters r) refl
  where
    go : (b : Bool) → filters r ≡ b → lent_source r input lent ≡ coefficients r input
    go true f = sym (from_work r input lent f refl) ∙ l.front f
    go false f = sym (from_input r input lent f) ∙ unfiltered r input f

-- ---- the voxel
module _ (e : Entry) (r : Request) (input output : List Float) (coverage : List ℕ) (work : List Float) (done : number_in (call e r input output coverage work).answer ≡ 0) (i j k : ℕ) (inside : Inside (output_dims e r) i j k) (value : List Float) (codes : List ℕ) (one : length value ≡ 1) (one' : length codes ≡ 1) where
  abbrev at : List ℕ
  at = i ∷ j ∷ k ∷ []

  -- what the call of the volume wrote there
  abbrev wrote : VoxelCall
  wrote = voxel_call_of (Ok tt) (voxel (output_dims e r) (call e r input output coverage work).output i j k ∷ []) (code (output_dims e r) (call e r input output coverage work).coverage i j k ∷ [])

  is_voxel : (lent : List Float) → Lends r input lent → voxel_call_by (Ok tt) (voxel_of r (axes_of e r) input lent at) value codes ≡ wrote
  unfolding voxel_of
  is_voxel lent l =
      let s = succeeds r input output coverage work e done in
      let a = axes_of e r in
      λ t. voxel_call_of (Ok tt)
      ((ap (λ (xs : List Float). voxel_at r.order r.mode a.x a.y a.z xs i j k) (source_is r input lent l) ∙ sym (voxel_is e r input output coverage work s i j k inside)) t ∷ [])
      (sym (code_is e r input output coverage work s i j k inside) t ∷ [])

  -- asked for alone, with work that begins with the engine's coefficients
  pub alone_as_volume : (lent : List Float) → Lends r input lent → voxel_call e r input lent at value codes ≡ wrote
  unfolding shift_voxel_call zoom_voxel_call
  alone_as_volume lent l =
      let passed = taken r input (length output) (length coverage) (length work) (length value) (length codes) (length lent) one one' l.room e i j k inside (by_verdict r input output coverage work e done) in
      by_entry e lent passed ∙ is_voxel lent l
    where
      by_entry : (e : Entry) (lent : List Float) → first (voxel_checks e r input (length value) (length codes) (length lent) at) ≡ Ok tt → voxel_call e r input lent at value codes ≡ voxel_call_by (Ok tt) (voxel_of r (axes_of e r) input lent at) value codes
      by_entry shifting lent p = ap (λ (v : Result ⊤ Refusal). voxel_call_by v (voxel_of r (axes_of shifting r) input lent at) value codes) p
      by_entry zooming lent p = ap (λ (v : Result ⊤ Refusal). voxel_call_by v (voxel_of r (axes_of zooming r) input lent at) value codes) p

  -- and so with the work that the call of the volume left
  pub alone_after_volume : voxel_call e r input (call e r input output coverage work).work at value codes ≡ wrote
  alone_after_volume =
      let w = work_filtered e r input output coverage work done in
      let room = (succeeds r input output coverage work e done).passes.room in
      alone_as_volume (call e r input output coverage work).work (record { room = subst (λ (n : ℕ). needed r ≤ n) (sym w.long) room; front = λ f. (w.begins f).front })
