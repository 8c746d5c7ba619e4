-- How many numbers below a bound pass a test: the count of a code in a list, and of the places of a volume that pass a test on each axis.
use Prim.Native.Nat.{ℕ, zero, suc, ◌+◌, ◌*◌, ◌<◌, suc-le-suc}
use native.Mathlib.Nat.{zero-lt-suc, zero-mul, suc-mul, add-mul, one-mul, zero-add, suc-add}
use native.Mathlib.Omega.{arith}
use mathlib.Core.Path.{◌≡◌, refl, sym, ap, ◌∙◌}
use mathlib.Core.Bool.{Bool, true, false, ◌&&◌, cond}
use mathlib.Core.List.{List, [], ◌∷◌}
use lib.Dec.{eqb}
use lib.ListN.{length, get_or}
use borrow.Author.Tests.{ne_eqb}
use Rattle.promises.specs.Marks.{bearing}

unfoldable pub how_many : (ℕ → Bool) → ℕ → ℕ
how_many test zero = 0
how_many test (suc n) = cond (test 0) 1 0 + how_many (λ i. test (suc i)) n

pub bearing_is : (code : ℕ) (l : List ℕ) → bearing code l ≡ how_many (λ m. eqb (get_or l m 0) code) (length l)
unfolding bearing how_many
bearing_is code [] = refl
bearing_is code (c ∷ cs) = ap (λ (n : ℕ). cond (eqb c code) 1 0 + n) (bearing_is code cs)

-- only the numbers below n count
pub alike : (n : ℕ) (s t : ℕ → Bool) → ((i : ℕ) → i < n → s i ≡ t i) → how_many s n ≡ how_many t n
unfolding how_many
alike zero s t h = refl
alike (suc n) s t h = λ x. cond (h 0 (zero-lt-suc n) x) 1 0 + alike n (λ i. s (suc i)) (λ i. t (suc i)) (λ i l. h (suc i) (suc-le-suc l)) x

pub all : (n : ℕ) → how_many (λ i. true) n ≡ n
unfolding how_many
all zero = refl
all (suc n) = omega (arith, all n)

pub none : (n : ℕ) → how_many (λ i. false) n ≡ 0
unfolding how_many
none zero = refl
none (suc n) = omega (arith, none n)

-- a code that no place bears
pub bearing-none : (code : ℕ) (l : List ℕ) → ((m : ℕ) → m < length l → get_or l m 0 ≡ code → ⊥) → bearing code l ≡ 0
bearing-none code l h = bearing_is code l ∙ alike (length l) (λ m. eqb (get_or l m 0) code) (λ m. false) (λ m k. ne_eqb (get_or l m 0) code (h m k)) ∙ none (length l)

append : (m n : ℕ) (t : ℕ → Bool) → how_many t (m + n) ≡ how_many t m + how_many (λ i. t (m + i)) n
unfolding how_many
append zero n t = ap (how_many t) (zero-add n) ∙ alike n t (λ i. t (0 + i)) (λ i l. ap t (sym (zero-add i))) ∙ sym (zero-add (how_many (λ i. t (0 + i)) n))
append (suc m) n t =
    let rest = append m n (λ i. t (suc i)) in
    let same = alike n (λ i. t (suc (m + i))) (λ i. t (suc m + i)) (λ i l. ap t (sym (suc-add m i))) in
    ap (how_many t) (suc-add m n) ∙ omega (arith, rest, same)

-- ---- n rows of w places, of each of which B pass or none
rows : (n w B : ℕ) (t a : ℕ → Bool) → ((i : ℕ) → i < n → how_many (λ j. t (i * w + j)) w ≡ cond (a i) B 0) → how_many t (n * w) ≡ how_many a n * B
unfolding how_many
rows zero w B t a h = ap (how_many t) (zero-mul w) ∙ sym (zero-mul B)
rows (suc n) w B t a h =
    let after : suc n * w ≡ w + n * w = omega (arith, suc-mul n w) in
    let row = alike w t (λ j. t (0 * w + j)) (λ j l. ap t (omega (arith, zero-mul w))) ∙ h 0 (zero-lt-suc n) in
    let rest = rows n w B (λ i. t (w + i)) (λ i. a (suc i)) (λ i l. alike w (λ j. t (w + (i * w + j))) (λ j. t (suc i * w + j)) (λ j k. ap t (omega (arith, suc-mul i w))) ∙ h (suc i) (suc-le-suc l)) in
    ap (how_many t) after ∙ append w (n * w) t ∙ omega (arith, row, rest, one (a 0), add-mul (cond (a 0) 1 0) (how_many (λ i. a (suc i)) n) B)
  where
    one : (b : Bool) → cond b 1 0 * B ≡ cond b B 0
    one true = one-mul B
    one false = zero-mul B

guarded : (g : Bool) (t : ℕ → Bool) (n : ℕ) → how_many (λ i. g && t i) n ≡ cond g (how_many t n) 0
guarded true t n = refl
guarded false t n = none n

-- ---- the places of a volume that pass a test of each axis
pub volume :
    (nx ny nz : ℕ) (t a b c : ℕ → Bool) → ((i j k : ℕ) → i < nx → j < ny → k < nz → t (i * (ny * nz) + (j * nz + k)) ≡ (a i && b j && c k)) →
    how_many t (nx * (ny * nz)) ≡ how_many a nx * (how_many b ny * how_many c nz)
volume nx ny nz t a b c h = rows nx (ny * nz) (how_many b ny * how_many c nz) t a plane
  where
    row : (i j : ℕ) → i < nx → j < ny → how_many (λ k. t (i * (ny * nz) + (j * nz + k))) nz ≡ cond (a i && b j) (how_many c nz) 0
    row i j li lj = alike nz (λ k. t (i * (ny * nz) + (j * nz + k))) (λ k. (a i && b j) && c k) (λ k lk. h i j k li lj lk) ∙ guarded (a i && b j) c nz

    times : (g : Bool) (B C : ℕ) → cond g B 0 * C ≡ cond g (B * C) 0
    times true B C = refl
    times false B C = zero-mul C

    plane : (i : ℕ) → i < nx → how_many (λ q. t (i * (ny * nz) + q)) (ny * nz) ≡ cond (a i) (how_many b ny * how_many c nz) 0
    plane i li =
        rows ny nz (how_many c nz) (λ q. t (i * (ny * nz) + q)) (λ j. a i && b j) (λ j lj. row i j li lj)
        ∙ ap (λ (k : ℕ). k * how_many c nz) (guarded (a i) b ny)
        ∙ times (a i) (how_many b ny) (how_many c nz)
