-- The counts of a coverage, one code more, and their sum.
use Prim.Native.Nat.{ℕ, ◌+◌, ◌<◌}
use native.Mathlib.Nat.{add-zero}
use native.Mathlib.Numerals.{add-one}
use native.Mathlib.Omega.{arith}
use mathlib.Core.Path.{◌≡◌, refl, sym, ap, ◌∙◌}
use mathlib.Core.Bool.{Bool, true, false, cond}
use mathlib.Core.List.{List, [], ◌∷◌, ◌++◌}
use lib.Dec.{eqb, ltb}
use mir.Val.{bool_byte}
use lib.ListN.{length, get_or, take}
use lib.Seq.{take-suc}
use borrow.Author.Tests.{ne_eqb, eqb-true, eqb-false, ltb-true, ltb-false}
use Rattle.coverage.specs.declared.counts.Counts.{Counts}
use Rattle.coverage.specs.Coverage.{none, with_code, counts_from, counts_of, total}

-- ---- one code more: how the tests of the code find the count
-- the counts with a code that is not 0
abbrev others : Counts → Bool → Bool → Counts
others c t u =
    cond t (record { computed = c.computed; filled = c.filled + 1; defaulted = c.defaulted; folded = c.folded })
    (cond u (record { computed = c.computed; filled = c.filled; defaulted = c.defaulted + 1; folded = c.folded })
    (record { computed = c.computed; filled = c.filled; defaulted = c.defaulted; folded = c.folded + 1 }))

pub with_others :
    (c : Counts) (code : ℕ) {one two more : ℕ} → (code ≡ 0 → ⊥) → one ≡ bool_byte (eqb code 1) → two ≡ bool_byte (eqb code 2) → more ≡ bool_byte (ltb 2 code) →
    record { computed = c.computed; filled = c.filled + one; defaulted = c.defaulted + two; folded = c.folded + more } ≡ with_code c code
unfolding with_code
with_others c code some p q r =
    (λ t. record { computed = c.computed; filled = c.filled + p t; defaulted = c.defaulted + q t; folded = c.folded + r t })
    ∙ go (eqb code 1) (eqb code 2) (ltb 2 code) refl refl refl
    ∙ sym (ap (λ (t : Bool). cond t (record { computed = c.computed + 1; filled = c.filled; defaulted = c.defaulted; folded = c.folded }) (others c (eqb code 1) (eqb code 2))) (ne_eqb code 0 some))
  where
    go : (t u v : Bool) → eqb code 1 ≡ t → eqb code 2 ≡ u → ltb 2 code ≡ v
        → record { computed = c.computed; filled = c.filled + bool_byte t; defaulted = c.defaulted + bool_byte u; folded = c.folded + bool_byte v } ≡ others c t u
    go true false false e f h = λ t. record { computed = c.computed; filled = c.filled + 1; defaulted = add-zero c.defaulted t; folded = add-zero c.folded t }
    go false true false e f h = λ t. record { computed = c.computed; filled = add-zero c.filled t; defaulted = c.defaulted + 1; folded = add-zero c.folded t }
    go false false true e f h = λ t. record { computed = c.computed; filled = add-zero c.filled t; defaulted = add-zero c.defaulted t; folded = c.folded + 1 }
    go true true v e f h = absurd (omega (arith, eqb-true code 1 e, eqb-true code 2 f))
    go true false true e f h = absurd (omega (arith, eqb-true code 1 e, ltb-true 2 code h))
    go false true true e f h = absurd (omega (arith, eqb-true code 2 f, ltb-true 2 code h))
    go false false false e f h = absurd (some (omega (arith, eqb-false code 1 e, eqb-false code 2 f, ltb-false 2 code h)))

snoc : (c : Counts) (xs : List ℕ) (x : ℕ) → counts_from c (xs ++ (x ∷ [])) ≡ with_code (counts_from c xs) x
unfolding counts_from
snoc c [] x = refl
snoc c (y ∷ ys) x = snoc (with_code c y) ys x

pub count_more : (l : List ℕ) (i : ℕ) → i < length l → counts_of (take (i + 1) l) ≡ with_code (counts_of (take i l)) (get_or l i 0)
unfolding counts_of
count_more l i h = ap (λ (n : ℕ). counts_from none (take n l)) (add-one i) ∙ ap (counts_from none) (take-suc l i 0 h) ∙ snoc none (take i l) (get_or l i 0)

-- each code counts once
total_with : (c : Counts) (code : ℕ) → total (with_code c code) ≡ total c + 1
unfolding with_code
total_with c code = go (eqb code 0) (eqb code 1) (eqb code 2)
  where
    go : (t u v : Bool)
        → total (cond t (record { computed = c.computed + 1; filled = c.filled; defaulted = c.defaulted; folded = c.folded })
        (cond u (record { computed = c.computed; filled = c.filled + 1; defaulted = c.defaulted; folded = c.folded })
        (cond v (record { computed = c.computed; filled = c.filled; defaulted = c.defaulted + 1; folded = c.folded })
        (record { computed = c.computed; filled = c.filled; defaulted = c.defaulted; folded = c.folded + 1 }))))
        ≡ total c + 1
    go true u v = omega arith
    go false true v = omega arith
    go false false true = omega arith
    go false false false = omega arith

total_from : (c : Counts) (xs : List ℕ) → total (counts_from c xs) ≡ total c + length xs
unfolding counts_from
total_from c [] = sym (add-zero (total c))
total_from c (x ∷ xs) = omega (arith, total_from (with_code c x) xs, total_with c x)

pub total_is : (xs : List ℕ) → total (counts_of xs) ≡ length xs
unfolding counts_of
total_is xs = total_from none xs ∙ (omega arith)
