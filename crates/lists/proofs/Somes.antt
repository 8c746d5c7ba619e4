-- A test that holds of some number below a bound, or of none; and `any` over the numbers below it.
use Prim.Native.Nat.{ℕ, zero, suc, ◌+◌, ◌<◌}
use native.Mathlib.Nat.{not-suc-le-zero, eq-or-lt_of_le, le_of_suc-le-suc, le_refl}
use native.Mathlib.Omega.{arith}
use mathlib.Core.Path.{◌≡◌, refl, sym, ap, ◌∙◌, subst}
use mathlib.Core.Logic.{inl, inr}
use mathlib.Core.Bool.{Bool, true, false, ◌||◌, true≢false}
use Rattle.std.specs.List.{list_any, range_with_len}
use Rattle.std.proofs.Math.Bool.{or-false, or_assoc}
use Rattle.std.proofs.lemmas.Bool.{or_right}
use Rattle.lists.specs.Some.{some_below}

pub some_none : (test : ℕ → Bool) (n : ℕ) → ((i : ℕ) → i < n → test i ≡ false) → some_below test n ≡ false
unfolding some_below
some_none test zero h = refl
some_none test (suc n) h = ap (λ (b : Bool). b || test n) (some_none test n (λ i l. h i (omega arith))) ∙ h n (le_refl (suc n))

pub some_at : (test : ℕ → Bool) (n i : ℕ) → i < n → test i ≡ true → some_below test n ≡ true
unfolding some_below
some_at test zero i l e = absurd (not-suc-le-zero l)
some_at test (suc n) i l e =
    elim (eq-or-lt_of_le (le_of_suc-le-suc l)) [
      | inl q ↦ ap (λ (b : Bool). some_below test n || b) (subst (λ (j : ℕ). test j ≡ true) q e) ∙ or_right (some_below test n) true refl
      | inr k ↦ ap (λ (b : Bool). b || test n) (some_at test n i k e)
    ]

pub some_found : (test : ℕ → Bool) (n : ℕ) → some_below test n ≡ true → (i : ℕ) × (i < n) × (test i ≡ true)
unfolding some_below
some_found test zero e = absurd (true≢false (sym e))
some_found test (suc n) e = go (some_below test n) (some_found test n) e
  where
    go : (b : Bool) → (b ≡ true → (i : ℕ) × (i < n) × (test i ≡ true)) → (b || test n) ≡ true → (i : ℕ) × (i < suc n) × (test i ≡ true)
    go true h e = let r = h refl in (r.0, omega (arith, r.1), r.2)
    go false h e = (n, le_refl (suc n), e)

pub none-at : (test : ℕ → Bool) (n : ℕ) → some_below test n ≡ false → (i : ℕ) → i < n → test i ≡ false
none-at test n none i l = go (test i) refl
  where
    go : (b : Bool) → test i ≡ b → b ≡ false
    go true e = absurd (true≢false (sym (some_at test n i l e) ∙ none))
    go false e = refl

-- ---- `any` goes over the numbers from 0 on
any_last : (test : ℕ → Bool) (a n j : ℕ) → a + n ≡ j → list_any test (range_with_len a (suc n)) ≡ (list_any test (range_with_len a n) || test j)
any_last test a zero j e =
    let same : a ≡ j = omega arith in
    or-false (test a) ∙ ap test same
any_last test a (suc n) j e = ap (λ (b : Bool). test a || b) (any_last test (a + 1) n j (omega arith)) ∙ sym (or_assoc (test a) (list_any test (range_with_len (a + 1) n)) (test j))

pub any_below : (test : ℕ → Bool) (n : ℕ) → list_any test (range_with_len 0 n) ≡ some_below test n
unfolding some_below
any_below test zero = refl
any_below test (suc n) = any_last test 0 n n (omega arith) ∙ ap (λ (b : Bool). b || test n) (any_below test n)
