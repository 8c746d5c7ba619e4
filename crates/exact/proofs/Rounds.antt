-- `round_ties_even_f`, by the steps that `nearest_whole` takes: x compared with the middle between its floor and the next whole number. And what it is of a number from 0 up: a natural number; and near 1, 1.
-- Assumes nothing.
use Rattle.std.proofs.Common.{◌≡◌, ℕ, zero, suc, ◌+◌, ◌-◌, ◌*◌, ◌/◌, ◌%◌, ◌^◌, ◌<◌, ◌≤◌, Bool, true, false, cond, not, T, eqb, ltb, ℤ, pos, negsuc, sym, refl, ap, ◌∙◌, subst, le_trans, le_of_eq, lt_of_le_of_lt, le_of_lt, mod-eq_of_lt, zero-lt-suc, add-mul, mul-le-mul_left, one-mul, div-add-mod', zero-mul, mul-one, ne_of_lt, mul_right_comm, not-le_of_lt, div-mul-le_self, add-one, arith, lit≤, le→leb, eqb→eq, ltb→lt, leb→le, nltb→le, pow_mono, ltb-false, ltb-true, ne_eqb}
use mathlib.Core.Logic.{dite}
use Prim.Native.Nat.{compare, Ordering}
use native.Mathlib.Nat.{zero-mod, mod-one, div-eq_of_lt}
use native.Mathlib.Decide.{dec_lt, ℕ_discrete}
use mathlib.Core.Bool.{false≢true, not-not}
use lib.Dec.{is_le, compare_is_eq, not_T}
use lib.Arith.{digits_div, digits_mod}
use lib.Ieee.{Float, nan, inf, fin, binary64, up, down, nearest, round, sum, neg, add, mul, div, lt, eq, fits, of_int}
use lib.Ieee.Exact.{HasValue}
use lib.Ieee.Fits.{down_pos, eq→eqb, nearest-le}
use lib.Ieee.Nearest.{closest}
use Rattle.exact.specs.Rounded.{half}
use Rattle.exact.specs.Whole.{W, Is}
use Rattle.exact.specs.Floor.{floor_f}
use Rattle.exact.specs.Round.{round_ties_even_f}
use Rattle.exact.specs.Bookkeeping.{NotBelowZero}
use Rattle.exact.proofs.Value.{is_true, add_val, lt_val}
use Rattle.exact.proofs.Whole.{W_val, add-W, mul-W_nat}
use Rattle.exact.proofs.Is.{round_is}
use Rattle.exact.proofs.Bounds.{round_neg}
use Rattle.exact.proofs.Floors.{floor_whole, floor_broken, broken_bounded, cut_whole, cut_less}
use Rattle.exact.proofs.Quotients.{dyadic, floor_div-W}
use Rattle.exact.proofs.Unique.{fits_says}
use Rattle.exact.proofs.Weights.{eq_own}
use Rattle.exact.proofs.Ranges.{Between, natural_between}

-- ---- `nearest`, by how twice the remainder compares with the divisor
pub nearest_lower : (q a b : ℕ) → a < b → nearest q (compare a b) ≡ q
nearest_lower q a b h = go (compare a b) (le→leb a b (le_of_lt h)) (λ t. ne_of_lt h (eqb→eq a b t))
  where
    go : (o : Ordering) → T (is_le o) → (T (compare_is_eq o) → ⊥) → nearest q o ≡ q
    go Ordering.lt l n = refl
    go Ordering.eq l n = absurd (n tt)
    go Ordering.gt l n = absurd l

nearest_tie : (q a b : ℕ) → a ≡ b → nearest q (compare a b) ≡ q + q % 2
nearest_tie q a b h = go (compare a b) (eq→eqb h)
  where
    go : (o : Ordering) → T (compare_is_eq o) → nearest q o ≡ q + q % 2
    go Ordering.lt t = absurd t
    go Ordering.eq t = refl
    go Ordering.gt t = absurd t

nearest_upper : (q a b : ℕ) → b < a → nearest q (compare a b) ≡ suc q
nearest_upper q a b h = go (compare a b) (λ t. not-le_of_lt h (leb→le a b t))
  where
    go : (o : Ordering) → (T (is_le o) → ⊥) → nearest q o ≡ suc q
    go Ordering.lt n = absurd (n tt)
    go Ordering.eq n = absurd (n tt)
    go Ordering.gt n = refl

-- ---- `round_ties_even_f` at a number that is whole, at one that is not, and at the other sign
pub rounded_whole : (s : Bool) (m : ℕ) (e : ℤ) → m * up e % down e ≡ 0 → round_ties_even_f (fin s m e) ≡ fin s m e
unfolding round_ties_even_f
rounded_whole s m e h = ap (λ (t : Bool). cond t (fin s m e) (round binary64 s (closest (m * up e) (down e)) 1)) (is_true (eqb (m * up e % down e) 0) (eq→eqb h))

pub rounded_broken : (s : Bool) (m : ℕ) (e : ℤ) → (m * up e % down e ≡ 0 → ⊥) → round_ties_even_f (fin s m e) ≡ round binary64 s (closest (m * up e) (down e)) 1
unfolding round_ties_even_f
rounded_broken s m e h = ap (λ (t : Bool). cond t (fin s m e) (round binary64 s (closest (m * up e) (down e)) 1)) (ne_eqb (m * up e % down e) 0 h)

pub neg-neg : (x : Float) → neg (neg x) ≡ x
unfolding neg
neg-neg nan = refl
neg-neg (inf s) = ap inf (not-not s)
neg-neg (fin s m e) = ap (λ (t : Bool). fin t m e) (not-not s)

pub rounded_neg : (x : Float) → round_ties_even_f (neg x) ≡ neg (round_ties_even_f x)
unfolding neg
rounded_neg nan = unfold round_ties_even_f in refl
rounded_neg (inf s) = unfold round_ties_even_f in refl
rounded_neg (fin s m e) =
    dite (ℕ_discrete (m * up e % down e) 0)
    (λ z. rounded_whole (not s) m e z ∙ ap neg (sym (rounded_whole s m e z)))
    (λ b. rounded_broken (not s) m e b ∙ other s (closest (m * up e) (down e)) ∙ ap neg (sym (rounded_broken s m e b)))
  where
    other : (s : Bool) (n : ℕ) → round binary64 (not s) n 1 ≡ neg (round binary64 s n 1)
    other false n = round_neg binary64 n 1
    other true n = sym (neg-neg (round binary64 false n 1)) ∙ ap neg (sym (round_neg binary64 n 1))

-- ---- a number that is not whole has a binary digit after the point, and so at most 52 before it
broken_short : (s : Bool) (m : ℕ) (e : ℤ) → T (fits binary64 (fin s m e)) → (m * up e % down e ≡ 0 → ⊥) → m * up e / down e * 2 < 2 ^ 53
broken_short s m (pos k) f h = absurd (h (mod-one (m * 2 ^ k)))
broken_short s zero (negsuc k) f h = absurd (h (ap (λ (n : ℕ). n % 2 ^ suc k) (zero-mul 1) ∙ zero-mod (2 ^ suc k)))
broken_short s (suc m) (negsuc k) f h =
    lt_of_le_of_lt
    (le_trans (mul-le-mul_left (suc m * 1 / 2 ^ suc k) (pow_mono {i = 1} (zero-lt-suc k)))
    (le_trans (div-mul-le_self (suc m * 1) (2 ^ suc k)) (le_of_eq (mul-one (suc m)))))
    (fits_says binary64 s m (negsuc k) f).short

small : (q : ℕ) → q * 2 < 2 ^ 53 → q ≤ 2 ^ 53
small q h = omega arith

middle : (q : ℕ) → q * 2 < 2 ^ 53 → HasValue (add binary64 (W (pos q)) half) false (q * 2 + 1) 2
unfolding sum
middle q h =
    subst (λ (x : Float). HasValue x false (q * 2 + 1) 2)
    (sym (add_val binary64 (W (pos q)) half false false q 1 1 2 (zero-lt-suc 0) (zero-lt-suc 1) (W_val (pos q) (small q h)) (refl, refl)))
    (dyadic false (q * 2 + 1) 1 (omega arith) (lit≤ tt))

-- the even one of q and q + 1
even_one : (q : ℕ) → (q + 1) / 2 * 2 ≡ q + q % 2
even_one q = omega arith

-- ---- the steps, with f the floor of x: what the three tests choose
abbrev pub choose : Bool → Bool → Bool → Float → Float → Float
choose whole lower upper x f =
    cond whole x (cond lower f (cond upper (add binary64 f (W (pos 1))) (mul binary64 (floor_f (div binary64 (add binary64 f (W (pos 1))) (W (pos 2)))) (W (pos 2)))))

abbrev steps : Float → Float → Float
steps x f = choose (eq f x) (lt x (add binary64 f half)) (lt (add binary64 f half) x) x f

-- ---- x is n / d, and n is q * d + r: x against the middle, and the number that each answer leads to
module _ (x : Float) (q r n d : ℕ) (D : 0 < d) (v : HasValue x false n d) (e : q * d + r ≡ n) (h : q * 2 < 2 ^ 53) where
  abbrev mid : Float
  mid = add binary64 (W (pos q)) half

  abbrev result : Float
  result = W (pos (nearest q (compare (r * 2) d)))

  cross : (q * 2 + 1) * d ≡ q * d * 2 + d
  cross = add-mul (q * 2) 1 d ∙ ap (λ (z : ℕ). z + 1 * d) (mul_right_comm q 2 d) ∙ ap (λ (z : ℕ). q * d * 2 + z) (one-mul d)

  below_middle : lt x mid ≡ ltb (n * 2) ((q * 2 + 1) * d)
  below_middle = lt_val x mid false false n d (q * 2 + 1) 2 D (zero-lt-suc 1) v (middle q h)

  above_middle : lt mid x ≡ ltb ((q * 2 + 1) * d) (n * 2)
  above_middle = lt_val mid x false false (q * 2 + 1) 2 n d (zero-lt-suc 1) D (middle q h) v

  next : add binary64 (W (pos q)) (W (pos 1)) ≡ W (pos (q + 1))
  next = add-W (pos q) (pos 1) (small q h) (lit≤ tt)

  lower : lt x mid ≡ true → W (pos q) ≡ result
  lower t = ap (λ (k : ℕ). W (pos k)) (sym (nearest_lower q (r * 2) d (omega (arith, cross, ltb-true (n * 2) ((q * 2 + 1) * d) (sym below_middle ∙ t)))))

  upper : lt mid x ≡ true → add binary64 (W (pos q)) (W (pos 1)) ≡ result
  upper t =
      next ∙ ap (λ (k : ℕ). W (pos k)) (add-one q ∙ sym (nearest_upper q (r * 2) d (omega (arith, cross, ltb-true ((q * 2 + 1) * d) (n * 2) (sym above_middle ∙ t)))))

  tie : lt x mid ≡ false → lt mid x ≡ false → mul binary64 (floor_f (div binary64 (add binary64 (W (pos q)) (W (pos 1))) (W (pos 2)))) (W (pos 2)) ≡ result
  tie t u =
      let a : (q * 2 + 1) * d ≤ n * 2 = ltb-false (n * 2) ((q * 2 + 1) * d) (sym below_middle ∙ t) in
      let b : n * 2 ≤ (q * 2 + 1) * d = ltb-false ((q * 2 + 1) * d) (n * 2) (sym above_middle ∙ u) in
      ap (λ (y : Float). mul binary64 (floor_f (div binary64 y (W (pos 2)))) (W (pos 2))) next
      ∙ ap (λ (y : Float). mul binary64 y (W (pos 2))) (floor_div-W (pos (q + 1)) 2 1 (omega arith) (zero-lt-suc 1) (lit≤ tt) (lit≤ tt) (omega arith))
      ∙ mul-W_nat ((q + 1) / 2) 2 (omega arith) (lit≤ tt)
      ∙ ap (λ (k : ℕ). W (pos k)) (even_one q ∙ sym (nearest_tie q (r * 2) d (omega (arith, cross))))

  chosen : (eq (W (pos q)) x ≡ true → ⊥) → steps x (W (pos q)) ≡ result
  chosen w = go (eq (W (pos q)) x) (lt x mid) (lt mid x) w refl refl
    where
      go : (t a b : Bool) → (t ≡ true → ⊥) → lt x mid ≡ a → lt mid x ≡ b → choose t a b x (W (pos q)) ≡ result
      go true a b w i j = absurd (w refl)
      go false true b w i j = lower i
      go false false true w i j = upper j
      go false false false w i j = tie i j

-- ---- at each x
steps-whole : (s : Bool) (m : ℕ) (e : ℤ) → m * up e % down e ≡ 0 → steps (fin s m e) (floor_f (fin s m e)) ≡ round_ties_even_f (fin s m e)
steps-whole s m e z =
    let x = fin s m e in
    ap (λ (f : Float). steps x f) (floor_whole s m e z)
    ∙ ap (λ (t : Bool). choose t (lt x (add binary64 x half)) (lt (add binary64 x half) x) x x) (is_true (eq x x) (eq_own x tt))
    ∙ sym (rounded_whole s m e z)

steps_broken : (m : ℕ) (e : ℤ) → T (fits binary64 (fin false m e)) → (m * up e % down e ≡ 0 → ⊥) → steps (fin false m e) (floor_f (fin false m e)) ≡ round_ties_even_f (fin false m e)
unfolding of_int
steps_broken m e f b =
    ap (λ (y : Float). steps (fin false m e) y) (floor_broken false m e b)
    ∙ chosen (fin false m e) (m * up e / down e) (m * up e % down e) (m * up e) (down e) (down_pos e) (refl, refl) (div-add-mod' (m * up e) (down e)) (broken_short false m e f b)
    (λ t. b (cut_whole false m e (broken_bounded false m e f b) t))
    ∙ sym (rounded_broken false m e b)

none_below : (a d : ℕ) → a < 0 * d → ⊥
none_below a d h = omega (arith, zero-mul d)

nought : (a d : ℕ) → a * 1 + 0 * d ≤ 0 → a ≡ 0
nought a d h = omega (arith, zero-mul d)

steps_are : (x : Float) → T (fits binary64 x) → NotBelowZero x → steps x (floor_f x) ≡ round_ties_even_f x
steps_are nan f h = unfold floor_f round_ties_even_f eq lt add div mul in refl
steps_are (inf true) f h = unfold floor_f round_ties_even_f eq in refl
steps_are (inf false) f h = unfold floor_f round_ties_even_f eq in refl
steps_are (fin true m e) f h = steps-whole true m e (ap (λ (n : ℕ). n % down e) (nought (m * up e) (down e) (nltb→le 0 (m * up e * 1 + 0 * down e) (unfold lt in h))) ∙ zero-mod (down e))
steps_are (fin false m e) f h = dite (ℕ_discrete (m * up e % down e) 0) (steps-whole false m e) (steps_broken m e f)

-- the negative of a number below 0
pub neg-not_below : (x : Float) → lt x (fin false 0 (pos 0)) ≡ true → NotBelowZero (neg x)
unfolding lt neg
neg-not_below nan h = tt
neg-not_below (inf true) h = tt
neg-not_below (inf false) h = absurd (false≢true h)
neg-not_below (fin true m e) h = not_T (ltb (m * up e * 1) (0 * down e)) (λ t. none_below (m * up e * 1) (down e) (ltb→lt (m * up e * 1) (0 * down e) t))
neg-not_below (fin false m e) h = absurd (none_below (m * up e * 1) (down e) (ltb-true (m * up e * 1) (0 * down e) h))

pub nearest_steps : (x f : Float) {t u v : Bool} → T (fits binary64 x) → NotBelowZero x → f ≡ floor_f x → eq f x ≡ t → lt x (add binary64 f half) ≡ u → lt (add binary64 f half) x ≡ v → choose t u v x f ≡ round_ties_even_f x
nearest_steps x f F p e h k l = (λ i. choose (sym h i) (sym k i) (sym l i) x f) ∙ ap (λ (y : Float). steps x y) e ∙ steps_are x F p

-- ---- whole numbers, and numbers from 0 to n
pub round_between : (x : Float) (n : ℕ) → n ≤ 2 ^ 53 → Between x n → (k : ℕ) × (k ≤ n) × Is (round_ties_even_f x) (pos k)
round_between x n N = natural_between round_ties_even_f rounded_whole x n broken
  where
    broken : (m : ℕ) (e : ℤ) → (m * up e % down e ≡ 0 → ⊥) → m * up e ≤ n * down e → (k : ℕ) × (k ≤ n) × Is (round_ties_even_f (fin false m e)) (pos k)
    broken m e b h =
        let q = closest (m * up e) (down e) in
        let l : q ≤ n = le_trans (nearest-le (m * up e / down e) (compare (m * up e % down e * 2) (down e))) (cut_less (m * up e) (down e) n b h) in
        (q, l, subst (λ (y : Float). Is y (pos q)) (sym (rounded_broken false m e b)) (round_is false q (pos q) refl (le_trans l N)))

-- ---- a number above 1 / 2 and below 3 / 2 is rounded to 1
pub round_to_one : (m : ℕ) (e : ℤ) → down e < m * up e * 2 → m * up e * 2 < down e * 3 → Is (round_ties_even_f (fin false m e)) (pos 1)
round_to_one m e low high =
    dite (ℕ_discrete (n % d) 0)
    (λ w. subst (λ (y : Float). Is y (pos 1)) (sym (rounded_whole false m e w)) (record { sign = false; size = 1; value = (refl, mul-one n ∙ all w ∙ sym (one-mul d)); number = refl }))
    (λ b. subst (λ (y : Float). Is y (pos 1)) (sym (rounded_broken false m e b ∙ ap (λ (q : ℕ). round binary64 false q 1) one)) (round_is false 1 (pos 1) refl (lit≤ tt)))
  where
    n : ℕ
    n = m * up e

    d : ℕ
    d = down e

    -- at 1 or more the quotient is 1
    over : d ≤ n → (n / d ≡ 1) × (n % d ≡ n - d)
    over l =
        let split : n ≡ 1 * d + (n - d) = omega (arith, one-mul d) in
        let less : n - d < d = omega arith in
        (ap (λ (k : ℕ). k / d) split ∙ digits_div 1 less, ap (λ (k : ℕ). k % d) split ∙ digits_mod 1 less)

    all : n % d ≡ 0 → n ≡ d
    all w = dite (dec_lt n d) (λ l. absurd (ne_of_lt (omega arith) (sym (sym (mod-eq_of_lt l) ∙ w)))) (λ g. let o = over (omega arith) in omega arith)

    one : closest n d ≡ 1
    one =
        dite (dec_lt n d)
        (λ l. (λ t. nearest (div-eq_of_lt l t) (compare (mod-eq_of_lt l t * 2) d)) ∙ nearest_upper 0 (n * 2) d low)
        (λ g. let o = over (omega arith) in (λ t. nearest (o.0 t) (compare (o.1 t * 2) d)) ∙ nearest_lower 1 ((n - d) * 2) d (omega arith))
