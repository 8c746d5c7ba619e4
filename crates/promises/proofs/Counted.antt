-- "The counts say how many voxels bear each code and sum to the output count."
use Prim.Native.Nat.{ℕ, zero, suc, ◌+◌, ◌*◌, ◌≤◌, ◌<◌}
use native.Mathlib.Omega.{arith}
use mathlib.Core.Path.{◌≡◌, refl, sym, subst, ◌∙◌}
use mathlib.Core.Bool.{◌&&◌, ◌||◌}
use mathlib.Core.List.{List, [], ◌∷◌}
use lib.ListN.{length, get_or}
use lib.Ieee.{Float}
use Rattle.lists.proofs.Tabulated.{length-tabulate, get_d_tabulate}
use Rattle.axis.specs.declared.coordinate.Axis.{Axis}
use Rattle.axis.specs.Folded.{folded_at}
use Rattle.border.specs.declared.BorderMode.{BorderMode}
use Rattle.refusal.specs.Refusals.{number_in}
use Rattle.coverage.specs.declared.counts.Counts.{Counts}
use Rattle.coverage.specs.Coverage.{kept_at, own_code, own_codes, x_of, y_of, z_of, none, with_code, counts_from, counts_of, total}
use Rattle.voxels.specs.Voxel.{values}
use Rattle.coverage.proofs.Counting.{total_is}
use Rattle.request.specs.declared.Request.{Request}
use Rattle.resample.specs.Call.{Call, counts_in, coefficients}
use Rattle.promises.specs.Entries.{Entry, call, axes_of}
use Rattle.promises.specs.Marks.{bearing}
use Rattle.promises.proofs.Succeeding.{succeeds}
use Rattle.promises.proofs.Marked.{upto_three}

-- ---- the counts of a list of codes
pub record Tallied (c : Counts) (before : Counts) (l : List ℕ) : Type 0 where
  pub computed : c.computed ≡ before.computed + bearing 0 l
  pub filled : c.filled ≡ before.filled + bearing 1 l
  pub defaulted : c.defaulted ≡ before.defaulted + bearing 2 l
  pub folded : c.folded ≡ before.folded + bearing 3 l

tallied : (c : Counts) (l : List ℕ) → ((m : ℕ) → m < length l → get_or l m 0 ≤ 3) → Tallied (counts_from c l) c l
unfolding counts_from bearing with_code
tallied c [] h = record { computed = omega arith; filled = omega arith; defaulted = omega arith; folded = omega arith }
tallied c (x ∷ xs) h = one x (h 0 (omega arith)) (tallied (with_code c x) xs (λ m l. h (suc m) (omega (arith, l))))
  where
    one : (x : ℕ) → x ≤ 3 → Tallied (counts_from (with_code c x) xs) (with_code c x) xs → Tallied (counts_from (with_code c x) xs) c (x ∷ xs)
    one zero l t = record { computed = omega (arith, t.computed); filled = omega (arith, t.filled); defaulted = omega (arith, t.defaulted); folded = omega (arith, t.folded) }
    one (suc zero) l t = record { computed = omega (arith, t.computed); filled = omega (arith, t.filled); defaulted = omega (arith, t.defaulted); folded = omega (arith, t.folded) }
    one (suc (suc zero)) l t = record { computed = omega (arith, t.computed); filled = omega (arith, t.filled); defaulted = omega (arith, t.defaulted); folded = omega (arith, t.folded) }
    one (suc (suc (suc zero))) l t = record { computed = omega (arith, t.computed); filled = omega (arith, t.filled); defaulted = omega (arith, t.defaulted); folded = omega (arith, t.folded) }
    one (suc (suc (suc (suc x)))) l t = absurd (omega (arith, l))

module _ (order : ℕ) (mode : BorderMode) (xa ya za : Axis) where
  codes-length : length (own_codes order mode xa ya za) ≡ xa.out * (ya.out * za.out)
  unfolding own_codes
  codes-length = length-tabulate (xa.out * (ya.out * za.out)) _

  code-at_most : (i j k : ℕ) → own_code order mode xa ya za i j k ≤ 3
  unfolding own_code
  code-at_most i j k = upto_three mode (kept_at mode xa i && kept_at mode ya j && kept_at mode za k) (folded_at order mode xa i || folded_at order mode ya j || folded_at order mode za k)

  codes_most : (m : ℕ) → m < length (own_codes order mode xa ya za) → get_or (own_codes order mode xa ya za) m 0 ≤ 3
  unfolding own_codes
  codes_most m l =
      let row = za.out in
      let plane = ya.out * row in
      subst (λ (c : ℕ). c ≤ 3) (sym (get_d_tabulate (xa.out * plane) (λ m. own_code order mode xa ya za (x_of plane m) (y_of plane row m) (z_of plane row m)) 0 m (omega (arith, l, codes-length)))) (code-at_most (x_of plane m) (y_of plane row m) (z_of plane row m))

  values_length : (xs : List Float) → length (values order mode xa ya za xs) ≡ xa.out * (ya.out * za.out)
  unfolding values
  values_length xs = length-tabulate (xa.out * (ya.out * za.out)) _

-- ---- the promise of `shift` and `zoom`: `count` is the output's
pub record Counted (count : ℕ) (c : Call) : Type 0 where
  pub coverage : counts_in c.answer ≡ counts_of c.coverage
  pub each : Tallied (counts_in c.answer) none c.coverage
  pub sum : total (counts_in c.answer) ≡ count
  pub codes : length c.coverage ≡ count
  pub values : length c.output ≡ count

pub counted : (e : Entry) (r : Request) (input output : List Float) (coverage : List ℕ) (work : List Float) → number_in (call e r input output coverage work).answer ≡ 0 → Counted (length output) (call e r input output coverage work)
unfolding counts_of
counted e r input output coverage work done =
    let s = succeeds r input output coverage work e done in
    let a = axes_of e r in
    let count = s.passes.values in
    let long = codes-length r.order r.mode a.x a.y a.z in
    subst (λ (c : Call). Counted (length output) c) (sym s.writes) (record {
      coverage = refl;
      each = tallied none (own_codes r.order r.mode a.x a.y a.z) (codes_most r.order r.mode a.x a.y a.z);
      sum = total_is (own_codes r.order r.mode a.x a.y a.z) ∙ long ∙ sym count;
      codes = long ∙ sym count;
      values = values_length r.order r.mode a.x a.y a.z (coefficients r input) ∙ sym count;
    })
