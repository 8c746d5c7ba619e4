-- The reader's number of the writer's decimal: of a number below 10,000, written before a sign that is no digit, the reader gives the number and what stands behind it.
use Prim.Native.Nat.{ℕ, ◌+◌, ◌-◌, ◌*◌, ◌/◌, ◌%◌, ◌≤◌, ◌<◌}
use native.Mathlib.Nat.{le-div_iff_mul-le, div-lt_iff_lt-mul, div-eq_of_lt}
use native.Mathlib.Omega.{arith}
use mathlib.Core.Path.{◌≡◌, refl, sym, ap, ◌∙◌}
use mathlib.Core.Bool.{Bool, true, false, not, ◌&&◌, cond}
use mathlib.Core.List.{List, [], ◌∷◌, ◌++◌, append_assoc}
use lib.Dec.{leb, lit<}
use lib.ListN.{length, length-append}
use borrow.Author.Tests.{le-ltb, le-leb, leb-true, leb-false, ne_eqb}
use Rattle.text.specs.declared.Kind.TheVariants.{Spacing, Digit}
use Rattle.text.specs.Text.{is_digit, past}
use Rattle.text.specs.Numeral.{limit, value_from, numeral, after_numeral}
use Rattle.text.proofs.Texts.{numeral_is, numeral_there, past_stops}
use Rattle.npy.specs.File.{digit, place_of, decimal}

-- ---- one digit
is_digit_lem : (x : ℕ) → 48 ≤ x → x ≤ 57 → is_digit x ≡ true
is_digit_lem x low high = ap (λ (t : Bool). not t && leb x 57) (le-ltb x 48 low) ∙ le-leb x 57 high

digit_is : (k : ℕ) → is_digit (digit k) ≡ true
digit_is k = is_digit_lem (digit k) (omega arith) (omega arith)

-- a digit read on from a number
digit_read : (m k : ℕ) (rest : List ℕ) → value_from m (digit k ∷ rest) ≡ value_from (m * 10 + k % 10) rest
unfolding value_from
digit_read m k rest =
    let there : digit k - 48 ≡ k % 10 = omega arith in
    ap (λ (t : Bool). cond t (value_from (m * 10 + (digit k - 48)) rest) m) (digit_is k) ∙ ap (λ (x : ℕ). value_from (m * 10 + x) rest) there

digit-past : (k : ℕ) (rest : List ℕ) → past Digit (digit k ∷ rest) ≡ past Digit rest
unfolding past
digit-past k rest = ap (λ (t : Bool). cond t (past Digit rest) (digit k ∷ rest)) (digit_is k)

-- ---- one place, written only if the number goes that far
-- what holds of both ways to write it holds of it
by_place : (P : List ℕ → Type 0) (n p : ℕ) → (p ≤ n → P (digit (n / p) ∷ [])) → (n < p → P []) → P (place_of n p)
by_place P n p there missing = go (leb p n) refl
  where
    go : (t : Bool) → leb p n ≡ t → P (cond t (digit (n / p) ∷ []) [])
    go true e = there (leb-true p n e)
    go false e = missing (leb-false p n e)

-- read on from the places above it, a place gives the number down to it
place_read : (n p : ℕ) (rest : List ℕ) → value_from (n / p / 10) (place_of n p ++ rest) ≡ value_from (n / p) rest
place_read n p rest = by_place (λ (l : List ℕ). value_from (n / p / 10) (l ++ rest) ≡ value_from (n / p) rest) n p one none
  where
    one : p ≤ n → value_from (n / p / 10) (digit (n / p) ∷ rest) ≡ value_from (n / p) rest
    one h =
        let whole : n / p / 10 * 10 + n / p % 10 ≡ n / p = omega arith in
        digit_read (n / p / 10) (n / p) rest ∙ ap (λ (m : ℕ). value_from m rest) whole

    none : n < p → value_from (n / p / 10) rest ≡ value_from (n / p) rest
    none h =
        let nothing : n / p ≡ 0 = div-eq_of_lt h in
        ap (λ (m : ℕ). value_from m rest) (omega arith)

place-past : (n p : ℕ) (rest : List ℕ) → past Digit (place_of n p ++ rest) ≡ past Digit rest
place-past n p rest = by_place (λ (l : List ℕ). past Digit (l ++ rest) ≡ past Digit rest) n p (λ h. digit-past (n / p) rest) (λ h. refl)

place-length : (n p : ℕ) → length (place_of n p) ≤ 1
place-length n p = by_place (λ (l : List ℕ). length l ≤ 1) n p (λ h. omega arith) (λ h. omega arith)

-- ---- the four places
places : (n : ℕ) (rest : List ℕ) → decimal n ++ rest ≡ place_of n 1000 ++ (place_of n 100 ++ (place_of n 10 ++ (digit n ∷ rest)))
unfolding decimal
places n rest = simp append_assoc

pub decimal-length : (n : ℕ) → (1 ≤ length (decimal n)) × (length (decimal n) ≤ 4)
unfolding decimal
decimal-length n =
    simp length-append (omega (arith, place-length n 1000, place-length n 100, place-length n 10))

-- read as a whole, and gone past as a whole
decimal_read : (n : ℕ) (rest : List ℕ) → n < 10000 → value_from 0 (decimal n ++ rest) ≡ value_from n rest
decimal_read n rest h =
    let thousands : 0 ≡ n / 1000 / 10 = omega arith in
    let hundreds : n / 1000 ≡ n / 100 / 10 = omega arith in
    let tens : n / 100 ≡ n / 10 / 10 = omega arith in
    let ones : n / 10 * 10 + n % 10 ≡ n = omega arith in
    let behind10 = digit n ∷ rest in
    let behind100 = place_of n 10 ++ behind10 in
    let behind1000 = place_of n 100 ++ behind100 in
    ap (value_from 0) (places n rest)
    ∙ ap (λ (m : ℕ). value_from m (place_of n 1000 ++ behind1000)) thousands
    ∙ place_read n 1000 behind1000
    ∙ ap (λ (m : ℕ). value_from m behind1000) hundreds
    ∙ place_read n 100 behind100
    ∙ ap (λ (m : ℕ). value_from m behind100) tens
    ∙ place_read n 10 behind10
    ∙ digit_read (n / 10) n rest
    ∙ ap (λ (m : ℕ). value_from m rest) ones

decimal-past : (n : ℕ) (rest : List ℕ) → past Digit (decimal n ++ rest) ≡ past Digit rest
decimal-past n rest = ap (past Digit) (places n rest) ∙ place-past n 1000 _ ∙ place-past n 100 _ ∙ place-past n 10 _ ∙ digit-past n rest

-- ---- the text begins with a digit, and not with 0
abbrev pub Leads : List ℕ → Type 0
Leads [] = ⊥
Leads (x ∷ xs) = (48 < x) × (x ≤ 57)

-- the first place that is written does not hold 0
place_leads : (n p : ℕ) (rest : List ℕ) → 0 < p → n < 10 * p → (n < p → Leads rest) → Leads (place_of n p ++ rest)
place_leads n p rest pos small behind = by_place (λ (l : List ℕ). Leads (l ++ rest)) n p first behind
  where
    first : p ≤ n → (48 < digit (n / p)) × (digit (n / p) ≤ 57)
    first h =
        let low : 1 ≤ n / p = (le-div_iff_mul-le pos).1 (omega arith) in
        let high : n / p < 10 = (div-lt_iff_lt-mul pos).1 small in
        omega arith

pub decimal_leads : (n : ℕ) (rest : List ℕ) → 1 ≤ n → n < 10000 → Leads (decimal n ++ rest)
decimal_leads n rest low high =
    rw (places n rest) (place_leads n 1000 _ (lit< tt) (omega arith) λ h. place_leads n 100 _ (lit< tt) (omega arith) λ k. place_leads n 10 _ (lit< tt) (omega arith) λ l. omega arith)

-- such a text begins with no spacing
pub leads_stays : (text : List ℕ) → Leads text → past Spacing text ≡ text
leads_stays [] h = absurd h
leads_stays (x ∷ xs) h = past_stops (x ∷ xs) 0 Spacing (omega arith) (simp (ne_eqb x 32 (λ e. omega arith), ne_eqb x 9 (λ e. omega arith), ne_eqb x 10 (λ e. omega arith)))

-- the reader goes past all digits of a number that does not begin with 0
leads_after : (text : List ℕ) → Leads text → numeral text < limit → after_numeral text ≡ past Digit text
leads_after [] h l = absurd h
leads_after (x ∷ xs) h l = sym (numeral_there (x ∷ xs) 0 (omega arith) (λ e. omega arith) (is_digit_lem x (omega arith) h.1) l)

-- ---- before a sign that is no digit
module _ (n x : ℕ) (rest : List ℕ) (small : n < 10000) (other : is_digit x ≡ false) where
  pub numeral_back : numeral (decimal n ++ (x ∷ rest)) ≡ n
  unfolding value_from
  numeral_back =
      let stops : value_from n (x ∷ rest) ≡ n = ap (λ (t : Bool). cond t (value_from (n * 10 + (x - 48)) rest) n) other in
      sym (numeral_is n (decimal n ++ (x ∷ rest)) (decimal_read n (x ∷ rest) small ∙ stops) (omega arith))

  pub numeral_behind : 1 ≤ n → after_numeral (decimal n ++ (x ∷ rest)) ≡ x ∷ rest
  numeral_behind low =
      leads_after (decimal n ++ (x ∷ rest)) (decimal_leads n (x ∷ rest) low small) (omega (arith, numeral_back))
      ∙ decimal-past n (x ∷ rest)
      ∙ past_stops (x ∷ rest) 0 Digit (omega arith) other
