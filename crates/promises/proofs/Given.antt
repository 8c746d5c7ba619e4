-- "The first that applies is given, and a refusal is given only then": refusal n is the answer exactly when its condition holds and no earlier one does; success, exactly when none holds; and there is no other answer.
use Prim.Native.Nat.{ℕ, ◌≤◌}
use native.Mathlib.Omega.{arith}
use mathlib.Core.Path.{◌≡◌, refl, sym, ap, ◌∙◌, subst}
use mathlib.Core.Logic.{◌↔◌}
use mathlib.Core.Bool.{Bool, true, false, not, ◌&&◌, ◌||◌, cond, true≢false}
use mathlib.Core.List.{List, [], ◌∷◌, ◌++◌}
use lib.Dec.{eqb}
use lib.ListN.{length}
use lib.Ieee.{Float}
use borrow.Author.Tests.{eqb-true, eqb-false, eq-eqb, ne_eqb, not-true}
use Rattle.request.specs.declared.Axes.{Axes}
use Rattle.request.specs.declared.Request.{Request}
use Rattle.refusal.specs.declared.Refusal.{Refusal}
use Rattle.refusal.specs.declared.Refusal.TheVariants.{NotNpy, Order, AxisNumber, Length, Factor, Slice, OutputLength, Count, Buffer, Value, Beside, Index}
use Rattle.refusal.specs.Refusals.{Check, first, number_of, number_in}
use Rattle.refusal.proofs.Firsts.{Clear, all_say, found_among}
use Rattle.resample.specs.Call.{call_by, filter_call_by, shift_call, zoom_call, spline_filter_call, spline_filter1d_call}
use Rattle.one_voxel.specs.declared.Voxel.{Voxel}
use Rattle.one_voxel.specs.Call.{voxel_call_by, shift_voxel_call, zoom_voxel_call}
use Rattle.promises.specs.Entries.{Entry, shifting, zooming, Filter, whole, along, call, checks, axes_of, voxel_call, voxel_checks, filter_call, filter_checks}
use Rattle.promises.specs.Given.{holds, earlier, FirstToHold, NoneBut, among}
use Rattle.std.specs.Prelude.{Result, Ok, Err, ⊤}

either : (b : Bool) {A : Type 0} → (b ≡ true → A) → (b ≡ false → A) → A
either true t f = t refl
either false t f = f refl

-- ---- checks of which no two have one number
abbrev absent : ℕ → List Check → Bool
absent n [] = true
absent n (c ∷ cs) = not (eqb (number_of c.says) n) && absent n cs

abbrev pub distinct : List Check → Bool
distinct [] = true
distinct (c ∷ cs) = absent (number_of c.says) cs && distinct cs

pub both : (p q : Bool) → (p && q) ≡ true → (p ≡ true) × (q ≡ true)
both true q e = (refl, e)
both false q e = absurd (true≢false (sym e))

module _ (c : Check) (cs : List Check) where
  its_own : (n : ℕ) → number_of c.says ≡ n → holds (c ∷ cs) n ≡ c.applies
  its_own n e = ap (λ (b : Bool). cond b c.applies (holds cs n)) (eq-eqb _ _ e)

  another's : (n : ℕ) → (number_of c.says ≡ n → ⊥) → holds (c ∷ cs) n ≡ holds cs n
  another's n e = ap (λ (b : Bool). cond b c.applies (holds cs n)) (ne_eqb _ _ e)

missing : (n : ℕ) (l : List Check) → absent n l ≡ true → holds l n ≡ false
missing n [] a = refl
missing n (c ∷ cs) a =
    let h = both (not (eqb (number_of c.says) n)) (absent n cs) a in
    another's c cs n (eqb-false _ n (not-true (eqb (number_of c.says) n) h.0)) ∙ missing n cs h.1

-- and so among the earlier ones
missing_earlier : (n k : ℕ) (l : List Check) → absent n l ≡ true → absent n (earlier l k) ≡ true
missing_earlier n k [] a = refl
missing_earlier n k (c ∷ cs) a =
    let h = both (not (eqb (number_of c.says) n)) (absent n cs) a in
    go (eqb (number_of c.says) k) (λ t. h.0 t && missing_earlier n k cs h.1 t)
  where
    go : (b : Bool) → (not (eqb (number_of c.says) n) && absent n (earlier cs k)) ≡ true → absent n (cond b [] (c ∷ earlier cs k)) ≡ true
    go true e = refl
    go false e = e

-- ---- the numbers
pub some_number : (why : Refusal) → number_of why ≡ 0 → ⊥
some_number NotNpy e = omega (arith, e)
some_number Order e = omega (arith, e)
some_number AxisNumber e = omega (arith, e)
some_number Length e = omega (arith, e)
some_number Factor e = omega (arith, e)
some_number Slice e = omega (arith, e)
some_number OutputLength e = omega (arith, e)
some_number Count e = omega (arith, e)
some_number Buffer e = omega (arith, e)
some_number Value e = omega (arith, e)
some_number Beside e = omega (arith, e)
some_number Index e = omega (arith, e)

-- ---- the law of every such list, one check more
module _ (c : Check) (cs : List Check) (n : ℕ) (u : absent (number_of c.says) cs ≡ true) where
  abbrev own : ℕ
  own = number_of c.says

  -- what stands before refusal n's, where c is its check and where it is not
  found : own ≡ n → earlier (c ∷ cs) n ≡ []
  found e = ap (λ (b : Bool). cond b [] (c ∷ earlier cs n)) (eq-eqb _ _ e)

  passed_by : (own ≡ n → ⊥) → earlier (c ∷ cs) n ≡ c ∷ earlier cs n
  passed_by e = ap (λ (b : Bool). cond b [] (c ∷ earlier cs n)) (ne_eqb _ _ e)

  one_more : (number_in (first cs) ≡ n → FirstToHold cs n) → (b : Bool) → c.applies ≡ b → number_in (cond b (Err c.says) (first cs)) ≡ n → FirstToHold (c ∷ cs) n
  one_more rest true a e = record { this = its_own c cs n e ∙ a; before = λ m. ap (λ (l : List Check). holds l m) (found e) }
  one_more rest false a e =
      let r = rest e in
      let other : own ≡ n → ⊥ = λ q. true≢false (sym r.this ∙ ap (λ (k : ℕ). holds cs k) (sym q) ∙ missing own cs u) in
      record {
        this = another's c cs n other ∙ r.this;
        before = λ m. ap (λ (l : List Check). holds l m) (passed_by other) ∙ either (eqb own m) (λ t. its_own c (earlier cs n) m (eqb-true _ m t) ∙ a) (λ f. another's c (earlier cs n) m (eqb-false _ m f) ∙ r.before m);
      }

  one_less : (FirstToHold cs n → number_in (first cs) ≡ n) → FirstToHold (c ∷ cs) n → (b : Bool) → c.applies ≡ b → number_in (cond b (Err c.says) (first cs)) ≡ n
  one_less rest h true a =
      either (eqb own n) (eqb-true _ n) (λ f. absurd (true≢false (sym a ∙ sym (its_own c (earlier cs n) own refl) ∙ ap (λ (l : List Check). holds l own) (sym (passed_by (eqb-false _ n f))) ∙ h.before own)))
  one_less rest h false a =
      let other : own ≡ n → ⊥ = λ q. true≢false (sym h.this ∙ its_own c cs n q ∙ a) in
      rest (record {
        this = sym (another's c cs n other) ∙ h.this;
        before = λ m. either (eqb own m) (λ t. ap (λ (k : ℕ). holds (earlier cs n) k) (sym (eqb-true _ m t)) ∙ missing own (earlier cs n) (missing_earlier own n cs u)) (λ f. sym (another's c (earlier cs n) m (eqb-false _ m f)) ∙ ap (λ (l : List Check). holds l m) (sym (passed_by other)) ∙ h.before m);
      })

given : (l : List Check) (n : ℕ) → distinct l ≡ true → 1 ≤ n → number_in (first l) ≡ n → FirstToHold l n
given [] n u p e = absurd (omega (arith, p, e))
given (c ∷ cs) n u p e = let h = both (absent (number_of c.says) cs) (distinct cs) u in one_more c cs n h.0 (given cs n h.1 p) c.applies refl e

only_then : (l : List Check) (n : ℕ) → distinct l ≡ true → FirstToHold l n → number_in (first l) ≡ n
only_then [] n u h = absurd (true≢false (sym h.this))
only_then (c ∷ cs) n u h = let d = both (absent (number_of c.says) cs) (distinct cs) u in one_less c cs n d.0 (only_then cs n d.1) h c.applies refl

-- ---- success
nothing_holds : (l : List Check) → number_in (first l) ≡ 0 → (n : ℕ) → holds l n ≡ false
nothing_holds [] e n = refl
nothing_holds (c ∷ cs) e n = go (nothing_holds cs) c.applies refl e
  where
    go : (number_in (first cs) ≡ 0 → (n : ℕ) → holds cs n ≡ false) → (b : Bool) → c.applies ≡ b → number_in (cond b (Err c.says) (first cs)) ≡ 0 → holds (c ∷ cs) n ≡ false
    go rest true a e = absurd (some_number c.says e)
    go rest false a e = either (eqb (number_of c.says) n) (λ t. its_own c cs n (eqb-true _ n t) ∙ a) (λ f. another's c cs n (eqb-false _ n f) ∙ rest e n)

nothing_found : (l : List Check) → distinct l ≡ true → ((n : ℕ) → holds l n ≡ false) → number_in (first l) ≡ 0
nothing_found [] u h = refl
nothing_found (c ∷ cs) u h =
    let own = number_of c.says in
    let d = both (absent own cs) (distinct cs) u in
    let rest = nothing_found cs d.1 (λ n. either (eqb own n) (λ t. ap (λ (k : ℕ). holds cs k) (sym (eqb-true _ n t)) ∙ missing own cs d.0) (λ f. sym (another's c cs n (eqb-false _ n f)) ∙ h n)) in
    ap (λ (b : Bool). number_in (cond b (Err c.says) (first cs))) (sym (its_own c cs own refl) ∙ h own) ∙ rest

-- ---- conditions that do not hold, and a last one of which nothing is said
pub clear_holds : (l : List Check) → Clear l → (n : ℕ) → holds l n ≡ false
clear_holds [] h n = refl
clear_holds (c ∷ cs) h n = either (eqb (number_of c.says) n) (λ t. its_own c cs n (eqb-true _ n t) ∙ h.0) (λ f. another's c cs n (eqb-false _ n f) ∙ clear_holds cs h.1 n)

behind : (c : Check) (n : ℕ) → (n ≡ number_of c.says → ⊥) → (l : List Check) → holds (l ++ (c ∷ [])) n ≡ holds l n
behind c n other [] = another's c [] n (λ e. other (sym e))
behind c n other (d ∷ ds) = ap (λ (t : Bool). cond (eqb (number_of d.says) n) d.applies t) (behind c n other ds)

pub but_last : (l : List Check) (c : Check) → ((n : ℕ) → holds l n ≡ false) → NoneBut (l ++ (c ∷ [])) (number_of c.says)
but_last l c h n other = behind c n other l ∙ h n

-- the others are then those that do not hold, where it has a number of its own
pub of_front : (l : List Check) (c : Check) → absent (number_of c.says) l ≡ true → NoneBut (l ++ (c ∷ [])) (number_of c.says) → (n : ℕ) → holds l n ≡ false
of_front l c a h n = either (eqb n (number_of c.says)) (λ t. ap (λ (k : ℕ). holds l k) (eqb-true n _ t) ∙ missing _ l a) (λ f. let other = eqb-false n _ f in sym (behind c n other l) ∙ h n other)

-- ---- of a number that the list decides
module _ (l : List Check) (u : distinct l ≡ true) {number : ℕ} (e : number ≡ number_in (first l)) where
  pub exactly : (n : ℕ) → 1 ≤ n → (number ≡ n) ↔ FirstToHold l n
  exactly n p = (λ q. given l n u p (sym e ∙ q), λ h. e ∙ only_then l n u h)

  pub success : (number ≡ 0) ↔ ((n : ℕ) → holds l n ≡ false)
  success = (λ q. nothing_holds l (sym e ∙ q), λ h. e ∙ nothing_found l u h)

-- ---- and none but its numbers
pub one_of : (numbers : List ℕ) (l : List Check) → all_say (λ (why : Refusal). among numbers (number_of why)) l ≡ true → {number : ℕ} → number ≡ number_in (first l) → among (0 ∷ numbers) number ≡ true
one_of numbers l h e = subst (λ (n : ℕ). among (0 ∷ numbers) n ≡ true) (sym e) (go (first l) refl)
  where
    some : (b c : Bool) → c ≡ true → (b || c) ≡ true
    some true c e = refl
    some false c e = e

    go : (v : Result ⊤ Refusal) → first l ≡ v → among (0 ∷ numbers) (number_in v) ≡ true
    go (Ok tt) q = refl
    go (Err why) q = some (eqb (number_of why) 0) (among numbers (number_of why)) (found_among (λ (why : Refusal). among numbers (number_of why)) l h why q)

-- ---- `shift` and `zoom`
module _ (e : Entry) (r : Request) (input output : List Float) (coverage : List ℕ) (work : List Float) where
  abbrev tests : List Check
  tests = checks e r input (length output) (length coverage) (length work)

  abbrev number : ℕ
  number = number_in (call e r input output coverage work).answer

  apart : distinct tests ≡ true
  apart = elim e as (λ (k : Entry). distinct (checks k r input (length output) (length coverage) (length work)) ≡ true) [ shifting ↦ refl | zooming ↦ refl ]

  pub numbered : number ≡ number_in (first tests)
  unfolding shift_call zoom_call
  numbered = elim e as (λ (k : Entry). number_in (call k r input output coverage work).answer ≡ number_in (first (checks k r input (length output) (length coverage) (length work)))) [
    | shifting ↦ by (first (checks shifting r input (length output) (length coverage) (length work))) (axes_of shifting r)
    | zooming ↦ by (first (checks zooming r input (length output) (length coverage) (length work))) (axes_of zooming r)
  ]
    where
      by : (v : Result ⊤ Refusal) (a : Axes) → number_in (call_by v r a input output coverage work).answer ≡ number_in v
      by (Ok tt) a = refl
      by (Err why) a = refl

  pub refusal_exactly : (n : ℕ) → 1 ≤ n → (number ≡ n) ↔ FirstToHold tests n
  refusal_exactly = exactly tests apart numbered

  pub success_exactly : (number ≡ 0) ↔ ((n : ℕ) → holds tests n ≡ false)
  success_exactly = success tests apart numbered

  pub answered : among (0 ∷ 1 ∷ 3 ∷ 4 ∷ 12 ∷ 5 ∷ 6 ∷ 7 ∷ 8 ∷ 9 ∷ []) number ≡ true
  answered = one_of (1 ∷ 3 ∷ 4 ∷ 12 ∷ 5 ∷ 6 ∷ 7 ∷ 8 ∷ 9 ∷ []) tests (elim e as (λ (k : Entry). all_say (λ why. among (1 ∷ 3 ∷ 4 ∷ 12 ∷ 5 ∷ 6 ∷ 7 ∷ 8 ∷ 9 ∷ []) (number_of why)) (checks k r input (length output) (length coverage) (length work)) ≡ true) [ shifting ↦ refl | zooming ↦ refl ]) numbered

-- ---- `spline_filter` and `spline_filter1d`
module _ (f : Filter) (r : Request) (input output : List Float) where
  abbrev filter_tests : List Check
  filter_tests = filter_checks f r input (length output)

  abbrev filter_number : ℕ
  filter_number = number_in (filter_call f r input output).answer

  filter_apart : distinct filter_tests ≡ true
  filter_apart = elim f as (λ (k : Filter). distinct (filter_checks k r input (length output)) ≡ true) [ whole ↦ refl | along axis ↦ refl ]

  pub filter_numbered : filter_number ≡ number_in (first filter_tests)
  unfolding spline_filter_call spline_filter1d_call
  filter_numbered = elim f as (λ (k : Filter). number_in (filter_call k r input output).answer ≡ number_in (first (filter_checks k r input (length output)))) [
    | whole ↦ by (first (filter_checks whole r input (length output))) _
    | along axis ↦ by (first (filter_checks (along axis) r input (length output))) _
  ]
    where
      by : (v : Result ⊤ Refusal) (filtered : List Float) → number_in (filter_call_by v filtered output).answer ≡ number_in v
      by (Ok tt) filtered = refl
      by (Err why) filtered = refl

  pub filter_refusal_exactly : (n : ℕ) → 1 ≤ n → (filter_number ≡ n) ↔ FirstToHold filter_tests n
  filter_refusal_exactly = exactly filter_tests filter_apart filter_numbered

  pub filter-success_exactly : (filter_number ≡ 0) ↔ ((n : ℕ) → holds filter_tests n ≡ false)
  filter-success_exactly = success filter_tests filter_apart filter_numbered

  pub filter-answered : among (0 ∷ 1 ∷ 2 ∷ 3 ∷ 6 ∷ 7 ∷ 8 ∷ []) filter_number ≡ true
  filter-answered = one_of (1 ∷ 2 ∷ 3 ∷ 6 ∷ 7 ∷ 8 ∷ []) filter_tests (elim f as (λ (k : Filter). all_say (λ why. among (1 ∷ 2 ∷ 3 ∷ 6 ∷ 7 ∷ 8 ∷ []) (number_of why)) (filter_checks k r input (length output)) ≡ true) [ whole ↦ refl | along axis ↦ refl ]) filter_numbered

-- ---- one voxel of `shift` or `zoom` (#105)
module _ (e : Entry) (r : Request) (input work : List Float) (at : List ℕ) (value : List Float) (code : List ℕ) where
  abbrev voxel_tests : List Check
  voxel_tests = voxel_checks e r input (length value) (length code) (length work) at

  abbrev voxel_number : ℕ
  voxel_number = number_in (voxel_call e r input work at value code).answer

  voxel_apart : distinct voxel_tests ≡ true
  voxel_apart = elim e as (λ (k : Entry). distinct (voxel_checks k r input (length value) (length code) (length work) at) ≡ true) [ shifting ↦ refl | zooming ↦ refl ]

  pub voxel_numbered : voxel_number ≡ number_in (first voxel_tests)
  unfolding shift_voxel_call zoom_voxel_call
  voxel_numbered = elim e as (λ (k : Entry). number_in (voxel_call k r input work at value code).answer ≡ number_in (first (voxel_checks k r input (length value) (length code) (length work) at))) [
    | shifting ↦ by (first (voxel_checks shifting r input (length value) (length code) (length work) at)) _
    | zooming ↦ by (first (voxel_checks zooming r input (length value) (length code) (length work) at)) _
  ]
    where
      by : (v : Result ⊤ Refusal) (made : Voxel) → number_in (voxel_call_by v made value code).answer ≡ number_in v
      by (Ok tt) made = refl
      by (Err why) made = refl

  pub voxel_refusal_exactly : (n : ℕ) → 1 ≤ n → (voxel_number ≡ n) ↔ FirstToHold voxel_tests n
  voxel_refusal_exactly = exactly voxel_tests voxel_apart voxel_numbered

  pub voxel-success_exactly : (voxel_number ≡ 0) ↔ ((n : ℕ) → holds voxel_tests n ≡ false)
  voxel-success_exactly = success voxel_tests voxel_apart voxel_numbered

  pub voxel-answered : among (0 ∷ 1 ∷ 3 ∷ 4 ∷ 12 ∷ 5 ∷ 6 ∷ 7 ∷ 8 ∷ 9 ∷ 11 ∷ []) voxel_number ≡ true
  voxel-answered = one_of (1 ∷ 3 ∷ 4 ∷ 12 ∷ 5 ∷ 6 ∷ 7 ∷ 8 ∷ 9 ∷ 11 ∷ []) voxel_tests (elim e as (λ (k : Entry). all_say (λ why. among (1 ∷ 3 ∷ 4 ∷ 12 ∷ 5 ∷ 6 ∷ 7 ∷ 8 ∷ 9 ∷ 11 ∷ []) (number_of why)) (voxel_checks k r input (length value) (length code) (length work) at) ≡ true) [ shifting ↦ refl | zooming ↦ refl ]) voxel_numbered
