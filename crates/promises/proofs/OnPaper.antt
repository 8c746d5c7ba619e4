-- #105: the record of one axis. Its refusals, each exactly when; and that a voxel made by hand from three records is the voxel.
use Prim.Native.Nat.{ℕ, ◌≤◌}
use mathlib.Core.Path.{◌≡◌, refl, sym, ap, ◌∙◌, subst}
use mathlib.Core.Logic.{◌↔◌}
use mathlib.Core.Bool.{Bool, true, false}
use mathlib.Core.List.{List, [], ◌∷◌}
use lib.ListN.{length, get_or}
use lib.Ieee.{Float, nan}
use Rattle.border.specs.declared.BorderMode.{BorderMode}
use Rattle.axis.specs.declared.coordinate.Axis.{Axis}
use Rattle.axis.specs.Coordinate.{pad_of, shift_axis, zoom_axis}
use Rattle.axis.specs.Length.{output_length}
use Rattle.request.specs.declared.Request.{Request}
use Rattle.refusal.specs.Refusals.{Check, first, number_of, number_in}
use Rattle.refusal.proofs.Firsts.{all_say}
use Rattle.coverage.specs.Coverage.{kept_at}
use Rattle.voxels.specs.Voxel.{voxel_at}
use Rattle.one_voxel.specs.declared.Voxel.{Voxel}
use Rattle.one_voxel.specs.Call.{lent_source, voxel_of, voxel_call_by, shift_voxel_call, zoom_voxel_call}
use Rattle.one_voxel.specs.Points.{PointCall, point_call_of, point_call_by, shift_point_call, zoom_point_call}
use Rattle.promises.specs.Entries.{Entry, shifting, zooming, axes_of, voxel_call, voxel_checks, point_call, point_checks}
use Rattle.promises.specs.Given.{holds, FirstToHold, among}
use Rattle.promises.specs.OnPaper.{axis_call, by_hand}
use Rattle.promises.proofs.Given.{distinct, some_number, exactly, success, one_of}
use Rattle.promises.proofs.Succeeding.{passed}
use Rattle.std.specs.Prelude.{Result, Ok, Err, ⊤}
use Rattle.refusal.specs.declared.Refusal.{Refusal}

-- ---- the refusals
module _ (e : Entry) (n : ℕ) (factor : Float) (order : ℕ) (prefilter : Bool) (mode : BorderMode) (i : ℕ) (coordinate : List Float) (at : List ℕ) (weight : List Float) where
  abbrev point_tests : List Check
  point_tests = point_checks e n factor order prefilter mode i (length coordinate) (length at) (length weight)

  abbrev pointed : PointCall
  pointed = point_call e n factor order prefilter mode i coordinate at weight

  abbrev point_number : ℕ
  point_number = number_in pointed.answer

  -- the axis that is asked for
  abbrev axis_of : Axis
  axis_of = elim e [ shifting ↦ shift_axis n factor (pad_of mode prefilter order n) | zooming ↦ zoom_axis n (output_length n factor) (pad_of mode prefilter order n) ]

  -- the call by its verdict
  by_tests : pointed ≡ point_call_by (first point_tests) order mode axis_of i coordinate at weight
  unfolding shift_point_call zoom_point_call
  by_tests = elim e as (λ (k : Entry). point_call k n factor order prefilter mode i coordinate at weight ≡ point_call_by (first (point_checks k n factor order prefilter mode i (length coordinate) (length at) (length weight))) order mode (elim k [ shifting ↦ shift_axis n factor (pad_of mode prefilter order n) | zooming ↦ zoom_axis n (output_length n factor) (pad_of mode prefilter order n) ]) i coordinate at weight) [ shifting ↦ refl | zooming ↦ refl ]

  point_apart : distinct point_tests ≡ true
  point_apart = elim e as (λ (k : Entry). distinct (point_checks k n factor order prefilter mode i (length coordinate) (length at) (length weight)) ≡ true) [ shifting ↦ refl | zooming ↦ refl ]

  pub point_numbered : point_number ≡ number_in (first point_tests)
  point_numbered = ap (λ (c : PointCall). number_in c.answer) by_tests ∙ by (first point_tests)
    where
      by : (v : Result ⊤ Refusal) → number_in (point_call_by v order mode axis_of i coordinate at weight).answer ≡ number_in v
      by (Ok tt) = refl
      by (Err why) = refl

  pub point_refusal_exactly : (m : ℕ) → 1 ≤ m → (point_number ≡ m) ↔ FirstToHold point_tests m
  point_refusal_exactly = exactly point_tests point_apart point_numbered

  pub point-success_exactly : (point_number ≡ 0) ↔ ((m : ℕ) → holds point_tests m ≡ false)
  point-success_exactly = success point_tests point_apart point_numbered

  pub point-answered : among (0 ∷ 1 ∷ 3 ∷ 4 ∷ 12 ∷ 5 ∷ 7 ∷ 9 ∷ 11 ∷ []) point_number ≡ true
  point-answered = one_of (1 ∷ 3 ∷ 4 ∷ 12 ∷ 5 ∷ 7 ∷ 9 ∷ 11 ∷ []) point_tests (elim e as (λ (k : Entry). all_say (λ why. among (1 ∷ 3 ∷ 4 ∷ 12 ∷ 5 ∷ 7 ∷ 9 ∷ 11 ∷ []) (number_of why)) (point_checks k n factor order prefilter mode i (length coordinate) (length at) (length weight)) ≡ true) [ shifting ↦ refl | zooming ↦ refl ]) point_numbered

  -- a refusal writes nothing
  pub point_refusal_leaves : (point_number ≡ 0 → ⊥) → pointed ≡ point_call_of pointed.answer coordinate at weight
  point_refusal_leaves = subst (λ (c : PointCall). (number_in c.answer ≡ 0 → ⊥) → c ≡ point_call_of c.answer coordinate at weight) (sym by_tests) (by (first point_tests))
    where
      by : (v : Result ⊤ Refusal) → let c = point_call_by v order mode axis_of i coordinate at weight in (number_in c.answer ≡ 0 → ⊥) → c ≡ point_call_of c.answer coordinate at weight
      by (Ok tt) h = absurd (h refl)
      by (Err why) h = refl

  -- a success writes the record
  writes : point_number ≡ 0 → point_call_by (Ok tt) order mode axis_of i coordinate at weight ≡ pointed
  writes q = ap (λ (v : Result ⊤ Refusal). point_call_by v order mode axis_of i coordinate at weight) (sym (passed (first point_tests) (sym point_numbered ∙ q))) ∙ sym by_tests

pub one_point_outcome :
    (e : Entry) (n : ℕ) (factor : Float) (order : ℕ) (prefilter : Bool) (mode : BorderMode) (i : ℕ) (coordinate : List Float) (at : List ℕ) (weight : List Float) {answer answer' : Result ⊤ Refusal} {c c' w w' : List Float} {a a' : List ℕ} →
    point_call_of answer c a w ≡ point_call e n factor order prefilter mode i coordinate at weight → point_call_of answer' c' a' w' ≡ point_call e n factor order prefilter mode i coordinate at weight →
    (answer ≡ answer') × (c ≡ c') × (a ≡ a') × (w ≡ w')
one_point_outcome e n factor order prefilter mode i coordinate at weight p q =
    let same = p ∙ sym q in
    (ap (λ (c : PointCall). c.answer) same, ap (λ (c : PointCall). c.coordinate) same, ap (λ (c : PointCall). c.at) same, ap (λ (c : PointCall). c.weight) same)

-- ---- the voxel i, j, k by the records of its three axes, whatever is lent for each
module _ (r : Request) (i j k : ℕ) (cx : List Float) (nx : List ℕ) (wx cy : List Float) (ny : List ℕ) (wy cz : List Float) (nz : List ℕ) (wz : List Float) where
  module _ (e : Entry) where
    abbrev x : PointCall
    x = axis_call e r 0 i cx nx wx

    abbrev y : PointCall
    y = axis_call e r 1 j cy ny wy

    abbrev z : PointCall
    z = axis_call e r 2 k cz nz wz

  axis_writes : (e : Entry) (axis m : ℕ) (c : List Float) (n : List ℕ) (w : List Float) → number_in (axis_call e r axis m c n w).answer ≡ 0 → point_call_by (Ok tt) r.order r.mode (axis_of e (get_or r.dims axis 0) (get_or r.factors axis nan) r.order r.prefilter r.mode m c n w) m c n w ≡ axis_call e r axis m c n w
  axis_writes e axis m c n w = writes e (get_or r.dims axis 0) (get_or r.factors axis nan) r.order r.prefilter r.mode m c n w

  -- over any voxels or coefficients
  pub on_paper : (e : Entry) (xs : List Float) → number_in (x e).answer ≡ 0 → number_in (y e).answer ≡ 0 → number_in (z e).answer ≡ 0 → let a = axes_of e r in voxel_at r.order r.mode a.x a.y a.z xs i j k ≡ by_hand r xs (x e) (y e) (z e)
  unfolding voxel_at kept_at
  on_paper shifting xs p q s = λ t. by_hand r xs (axis_writes shifting 0 i cx nx wx p t) (axis_writes shifting 1 j cy ny wy q t) (axis_writes shifting 2 k cz nz wz s t)
  on_paper zooming xs p q s = λ t. by_hand r xs (axis_writes zooming 0 i cx nx wx p t) (axis_writes zooming 1 j cy ny wy q t) (axis_writes zooming 2 k cz nz wz s t)

  -- so of the voxel that is asked for alone: by hand from the input, or from the coefficients lent in work, comes its value
  pub voxel_on_paper : (e : Entry) (input work value : List Float) (code : List ℕ) → let v = voxel_call e r input work (i ∷ j ∷ k ∷ []) value code in number_in v.answer ≡ 0 → number_in (x e).answer ≡ 0 → number_in (y e).answer ≡ 0 → number_in (z e).answer ≡ 0 → v.value ≡ by_hand r (lent_source r input work) (x e) (y e) (z e) ∷ []
  unfolding shift_voxel_call zoom_voxel_call voxel_of
  voxel_on_paper e input work value code done p q s = alone e done ∙ ap (λ (f : Float). f ∷ []) (on_paper e (lent_source r input work) p q s)
    where
      by : (v : Result ⊤ Refusal) (made : Voxel) → number_in (voxel_call_by v made value code).answer ≡ 0 → (voxel_call_by v made value code).value ≡ made.value ∷ []
      by (Ok tt) made h = refl
      by (Err why) made h = absurd (some_number why h)

      alone : (e : Entry) → let a = axes_of e r in number_in (voxel_call e r input work (i ∷ j ∷ k ∷ []) value code).answer ≡ 0 → (voxel_call e r input work (i ∷ j ∷ k ∷ []) value code).value ≡ voxel_at r.order r.mode a.x a.y a.z (lent_source r input work) i j k ∷ []
      alone shifting h = by (first (voxel_checks shifting r input (length value) (length code) (length work) (i ∷ j ∷ k ∷ []))) _ h
      alone zooming h = by (first (voxel_checks zooming r input (length value) (length code) (length work) (i ∷ j ∷ k ∷ []))) _ h
