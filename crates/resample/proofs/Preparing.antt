-- The coefficients: what is padded, what is filtered, and how many places that needs.
use Prim.Native.Nat.{ℕ, zero, suc, ◌+◌, ◌*◌, ◌≤◌, ◌<◌}
use native.Mathlib.Omega.{arith}
use mathlib.Core.Path.{◌≡◌, refl, ap, ◌∙◌}
use mathlib.Core.Bool.{Bool, true, false, cond}
use mathlib.Core.List.{List, [], ◌∷◌, ◌++◌}
use lib.ListN.{get_or, drop}
use lib.Ieee.{Float}
use Rattle.limits.specs.Limits.{edge_of, wide_of}
use Rattle.edge.specs.Edge.{padded, padded_dims}
use Rattle.prefilter.specs.Volume.{filter_volume, length_of, count_of}
use Rattle.prefilter.specs.Bookkeeping.{Sized}
use Rattle.request.specs.declared.Request.{Request}
use Rattle.request.specs.Sizes.{filters, edges, source_length, source_dims, needed}
use Rattle.request.specs.Bookkeeping.{Lengths}
use Rattle.resample.specs.Call.{source_of, coefficients, work_after}
use Rattle.request.proofs.Requests.{padding_most}

module _ (r : Request) where
  -- ---- without edge copies
  pub source_plain : (input : List Float) → edges r ≡ false → input ≡ source_of r input
  unfolding source_of
  source_plain input e = simp e

  -- ---- with them
  padded-dims : edges r ≡ true → source_dims r ≡ padded_dims r.dims
  padded-dims e =
      let q : (i : ℕ) → source_length r i ≡ wide_of (get_or r.dims i 0) = λ i. ap (λ (b : Bool). get_or r.dims i 0 + 2 * cond b (edge_of (get_or r.dims i 0)) 0) e in
      λ t. q 0 t ∷ q 1 t ∷ q 2 t ∷ []

  pub padded_count : edges r ≡ true → count_of (source_dims r) ≡ count_of (padded_dims r.dims)
  padded_count e = ap (λ (d : List ℕ). count_of d) (padded-dims e)

  pub source-padded : (input : List Float) → edges r ≡ true → padded r.dims input ≡ source_of r input
  unfolding source_of
  source-padded input e = simp e

  -- ---- sizes that the filter takes
  pub source_sized : (d : List ℕ) (count : ℕ) → Lengths r.dims → d ≡ source_dims r → count ≡ count_of (source_dims r) → Sized d count
  source_sized d count h e c = rw e record { least = λ axis l. (each axis l).0; most = λ axis l. (each axis l).1; all = c }
    where
      one : (axis : ℕ) → axis < 3 → (1 ≤ source_length r axis) × (source_length r axis ≤ 4120)
      one axis l = omega (arith, h axis l, padding_most r axis refl)

      each : (axis : ℕ) → axis < 3 → (1 ≤ length_of axis (source_dims r)) × (length_of axis (source_dims r) ≤ 4120)
      each zero l = one 0 l
      each (suc zero) l = one 1 l
      each (suc (suc zero)) l = one 2 l
      each (suc (suc (suc n))) l = absurd (omega arith)

  -- ---- what is computed
  pub filtered : (input : List Float) {d : List ℕ} {ws : List Float} → filters r ≡ true → d ≡ source_dims r → ws ≡ source_of r input → filter_volume r.mode r.order d ws ≡ coefficients r input
  unfolding coefficients
  filtered input f e q = (λ i. filter_volume r.mode r.order (e i) (q i)) ∙ simp f

  pub unfiltered : (input : List Float) → filters r ≡ false → input ≡ coefficients r input
  unfolding coefficients
  unfiltered input f = simp f

  -- ---- what work then holds
  pub work_begins : (input work : List Float) {need : ℕ} {ys : List Float} → filters r ≡ true → need ≡ needed r → ys ≡ coefficients r input → ys ++ drop need work ≡ work_after r input work
  work_begins input work f n q = (λ i. q i ++ drop (n i) work) ∙ simp f

  pub work_stays : (input work : List Float) → filters r ≡ false → work ≡ work_after r input work
  work_stays input work f = simp f
