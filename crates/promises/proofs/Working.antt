-- "Work then begins with the filtered coefficients (needed count); the rest is untouched", of every success of `shift` and `zoom`.
use Prim.Native.Nat.{ℕ, ◌-◌, ◌+◌, ◌≤◌}
use native.Mathlib.Omega.{arith}
use mathlib.Core.Path.{◌≡◌, refl, sym, ap, ◌∙◌, subst}
use mathlib.Core.Bool.{Bool, true, false, cond, true≢false}
use mathlib.Core.List.{List, ◌++◌}
use lib.ListN.{length, get_or, drop, length-append, length-drop}
use lib.Seq.{get_or-append-add, get_or-drop, take_at}
use lib.Ieee.{Float, nan}
use Rattle.limits.specs.Limits.{single}
use Rattle.lists.proofs.Tabulated.{length-tabulate}
use Rattle.border.specs.declared.BorderMode.{BorderMode}
use Rattle.edge.specs.Edge.{padded, padded_dims}
use Rattle.poles.specs.Poles.{poles_of, gain_of}
use Rattle.lane.specs.Lane.{reflects, filter_lane}
use Rattle.lanes.specs.Along.{filter_along}
use Rattle.prefilter.specs.Volume.{length_of, stride_of, filter_axis, filter_volume, count_of}
use Rattle.request.specs.declared.Request.{Request}
use Rattle.request.specs.Sizes.{filters, edges, source_dims, needed}
use Rattle.refusal.specs.Refusals.{number_in}
use Rattle.resample.specs.Call.{Call, source_of, coefficients, work_after}
use Rattle.request.proofs.Requests.{plain_count, needed_all}
use Rattle.resample.proofs.Preparing.{source_plain, padded_count, source-padded, filtered, work_begins, work_stays}
use Rattle.promises.specs.Entries.{Entry, call}
use Rattle.promises.specs.Work.{WorkFiltered}
use Rattle.promises.proofs.Succeeding.{succeeds}

-- ---- how many coefficients there are
length_volume : (mode : BorderMode) (order : ℕ) (d : List ℕ) (xs : List Float) → length (filter_volume mode order d xs) ≡ length xs
unfolding filter_volume filter_axis
length_volume mode order d xs = along 2 _ ∙ along 1 _ ∙ along 0 xs
  where
    along : (axis : ℕ) (xs : List Float) → length (filter_axis mode order d axis xs) ≡ length xs
    along axis xs = go (single (length_of axis d))
      where
        go : (t : Bool) → length (cond t xs (filter_along (filter_lane (reflects mode) (poles_of order) (gain_of (poles_of order))) (length_of axis d) (stride_of axis d) xs)) ≡ length xs
        go true = refl
        go false = length-tabulate (length xs) _

length-padded : (d : List ℕ) (xs : List Float) → length (padded d xs) ≡ count_of (padded_dims d)
unfolding padded
length-padded d xs = length-tabulate (count_of (padded_dims d)) _

module _ (r : Request) (input : List Float) (all : length input ≡ count_of r.dims) where
  length-source : length (source_of r input) ≡ count_of (source_dims r)
  length-source = go (edges r) refl
    where
      go : (t : Bool) → edges r ≡ t → length (source_of r input) ≡ count_of (source_dims r)
      go true e = ap length (sym (source-padded r input e)) ∙ length-padded r.dims input ∙ sym (padded_count r e)
      go false e = ap length (sym (source_plain r input e)) ∙ all ∙ sym (plain_count r e)

  pub coefficients_long : filters r ≡ true → length (coefficients r input) ≡ needed r
  coefficients_long f = ap length (sym (filtered r input f refl refl)) ∙ length_volume r.mode r.order (source_dims r) (source_of r input) ∙ length-source ∙ sym (needed_all r f)

-- ---- n numbers put over the front of a buffer
module _ (front work : List Float) {n : ℕ} (e : length front ≡ n) (room : n ≤ length work) where
  over_long : length (front ++ drop n work) ≡ length work
  over_long = simp (length-append, length-drop) (omega arith)

  over_rest : (m : ℕ) → n ≤ m → get_or (front ++ drop n work) m nan ≡ get_or work m nan
  over_rest m l =
      let at : m ≡ length front + (m - n) = omega arith in
      let back : n + (m - n) ≡ m = omega arith in
      ap (λ (k : ℕ). get_or (front ++ drop n work) k nan) at ∙ get_or-append-add front (drop n work) (m - n) nan ∙ get_or-drop n work (m - n) nan ∙ ap (λ (k : ℕ). get_or work k nan) back

-- ---- the work of a success
module _ (r : Request) (input work : List Float) (all : length input ≡ count_of r.dims) (room : needed r ≤ length work) where
  by_filter : (b : Bool) → filters r ≡ b → WorkFiltered r input work (work_after r input work)
  by_filter true f =
      let n = coefficients_long r input all f in
      let c = coefficients r input in
      subst (λ (w : List Float). WorkFiltered r input work w) (work_begins r input work f refl refl) (record {
        begins = λ _. record { count = n; front = take_at c _ (needed r) n };
        rest = over_rest c work n room;
        long = over_long c work n room;
        unfiltered = λ g. absurd (true≢false (sym f ∙ g));
      })
  by_filter false f =
      subst (λ (w : List Float). WorkFiltered r input work w) (work_stays r input work f) (record {
        begins = λ g. absurd (true≢false (sym g ∙ f));
        rest = λ m l. refl;
        long = refl;
        unfiltered = λ _. (simp f, refl);
      })

pub work_filtered :
    (e : Entry) (r : Request) (input output : List Float) (coverage : List ℕ) (work : List Float) → number_in (call e r input output coverage work).answer ≡ 0 →
    WorkFiltered r input work (call e r input output coverage work).work
work_filtered e r input output coverage work done =
    let s = succeeds r input output coverage work e done in
    subst (λ (c : Call). WorkFiltered r input work c.work) (sym s.writes) (by_filter r input work s.passes.admitted.all s.passes.room (filters r) refl)
