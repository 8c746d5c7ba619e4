-- A list whose first places are filled by a rule: one store more, and one lent stretch more.
use Prim.Native.Nat.{ℕ, zero, suc, ◌+◌, ◌*◌, ◌-◌, ◌≤◌, ◌<◌}
use mathlib.Core.Path.{◌≡◌, refl, ap, sym, ◌∙◌, subst}
use mathlib.Core.Logic.{dite, ⊎_elim}
use native.Mathlib.Decide.{dec_lt}
use mathlib.Core.List.{List, [], ◌∷◌, ◌++◌}
use native.Mathlib.Omega.{arith}
use native.Mathlib.Nat.{add-mul, eq-or-lt_of_le, zero-lt-suc, mul-zero, mul-le-mul_right}
use borrow.Rule.Slice.PartMut.{same_len_mid, post_of}
use lib.ListN.{length, get_or, take, drop, set, length-take, length-drop, get_or-append}
use Rattle.lists.specs.Tabulate.{tabulate}
use Rattle.lists.specs.Bookkeeping.{Filled}
use Rattle.lists.proofs.Tabulated.{is_tabulate}
use lib.Seq.{get_or-take, get_or-drop, get_or-set_same, get_or-set_other, get_or-append-add, length-take-le}

-- the end of stretch i is the start of the next
pub next : (i p : ℕ) → (i + 1) * p ≡ i * p + p
next i p = omega (arith, add-mul i 1 p)

pub store : {A : Type 0} (f : ℕ → A) (d : A) (l : List A) (k : ℕ) → k < length l → Filled f d l k → Filled f d (set l k (f k)) (k + 1)
store f d l k h p m lt =
    let le : m ≤ k = omega arith in
    ⊎_elim (λ e. rw e (get_or-set_same l k (f k) d h)) (λ b. get_or-set_other l k m (f k) d (λ e. omega arith) ∙ p m b) (eq-or-lt_of_le le)

pub put : {A : Type 0} (f : ℕ → A) (d : A) (l : List A) (k : ℕ) (v : A) → v ≡ f k → k < length l → Filled f d l k → Filled f d (set l k v) (k + 1)
put f d l k v e h p = subst (λ (x : _). Filled f d (set l k x) (k + 1)) (sym e) (store f d l k h p)

pub splice :
    {A : Type 0} (f : ℕ → A) (d : A) (xs ys zs : List A) (a : ℕ) → a ≤ length xs → Filled f d xs a → Filled (λ (m : ℕ). f (a + m)) d ys (length ys) → Filled f d (take a xs ++ (ys ++ zs)) (a + length ys)
splice f d xs ys zs a h p q m lt =
    let t : length (take a xs) ≡ a = length-take-le a xs h in
    dite
    (dec_lt m a)
    (λ b. get_or-append (take a xs) (ys ++ zs) d m (omega arith) ∙ get_or-take a xs m d b ∙ p m b)
    (λ b.
    let e : m ≡ length (take a xs) + (m - a) = omega arith in
    let e2 : a + (m - a) ≡ m = omega arith in
    ap (λ (j : ℕ). get_or (take a xs ++ (ys ++ zs)) j d) e ∙ get_or-append-add (take a xs) (ys ++ zs) (m - a) d ∙ get_or-append ys zs d (m - a) (omega arith) ∙ q (m - a) (omega arith) ∙ ap f e2)

-- one store, into one place: what was in it is gone
pub one_stored : {A : Type 0} (l : List A) {x : A} → length l ≡ 1 → set l 0 x ≡ x ∷ []
one_stored [] e = absurd (omega arith)
one_stored (a ∷ []) e = refl
one_stored (a ∷ b ∷ l) e = absurd (omega arith)

-- three stores, into three places
pub three_stored : {A : Type 0} (l : List A) {x y z : A} → length l ≡ 3 → set (set (set l 0 x) 1 y) 2 z ≡ x ∷ y ∷ z ∷ []
three_stored [] e = absurd (omega arith)
three_stored (a ∷ []) e = absurd (omega arith)
three_stored (a ∷ b ∷ []) e = absurd (omega arith)
three_stored (a ∷ b ∷ c ∷ []) e = refl
three_stored (a ∷ b ∷ c ∷ d ∷ l) e = absurd (omega arith)

-- and four, into four
pub four_stored : {A : Type 0} (l : List A) {x y z w : A} → length l ≡ 4 → set (set (set (set l 0 x) 1 y) 2 z) 3 w ≡ x ∷ y ∷ z ∷ w ∷ []
four_stored [] e = absurd (omega arith)
four_stored (a ∷ l) {x} e = ap (λ (r : List _). x ∷ r) (three_stored l (omega arith))

-- what stands at a place of a part
pub in_part : {A : Type 0} (d : A) (xs : List A) (a k m : ℕ) → m < k → get_or (take k (drop a xs)) m d ≡ get_or xs (a + m) d
in_part d xs a k m h = get_or-take k (drop a xs) m d h ∙ get_or-drop a xs m d

-- a part within the list has as many places as it says
pub part_length : {A : Type 0} (xs : List A) (a k : ℕ) → a + k ≤ length xs → length (take k (drop a xs)) ≡ k
part_length xs a k h = simp (length-take, length-drop) (omega arith)

-- ---- a buffer of n stretches of w places, of which the first j are written, each lent in turn as `&mut l[j * w..(j + 1) * w]`
pub record Written {A : Type 0} (f : ℕ → A) (d : A) (w long : ℕ) (l : List A) (j : ℕ) : Type 0 where
  pub same : length l ≡ long
  pub filled : Filled f d l (j * w)

-- stretch j of n lies within the buffer
pub stretch_within : (j n w long : ℕ) → j < n → long ≡ n * w → (j * w ≤ (j + 1) * w) × ((j + 1) * w ≤ long)
stretch_within j n w long h e =
    let b : (j + 1) * w ≤ n * w = mul-le-mul_right w (omega arith) in
    omega (arith, next j w)

-- where there is a place, a stretch has one
pub some_place : (n w : ℕ) {m : ℕ} → m < n * w → 0 < w
some_place n zero h = absurd (omega (arith, mul-zero n))
some_place n (suc w) h = zero-lt-suc w

pub next_written :
    {A : Type 0} (f : ℕ → A) (d : A) (w n : ℕ) (l ys : List A) (j : ℕ) → j < n → Written f d w (n * w) l j → length ys ≡ length (take ((j + 1) * w - j * w) (drop (j * w) l)) →
    Filled (λ (m : ℕ). f (j * w + m)) d ys w → Written f d w (n * w) (take (j * w) l ++ (ys ++ post_of (j * w) ((j + 1) * w - j * w) l)) (j + 1)
next_written f d w n l ys j h p k q =
    let in_Buffer = stretch_within j n w (n * w) h refl in
    let long : length ys ≡ w = k ∙ part_length l (j * w) ((j + 1) * w - j * w) (omega (arith, p.same, in_Buffer)) ∙ (omega (arith, next j w)) in
    let end : j * w + length ys ≡ (j + 1) * w = omega (arith, next j w) in
    record {
      same = same_len_mid (j * w) ((j + 1) * w - j * w) l ys k ∙ p.same;
      filled = subst (λ (z : ℕ). Filled f d (take (j * w) l ++ (ys ++ post_of (j * w) ((j + 1) * w - j * w) l)) z) end (splice f d l ys (post_of (j * w) ((j + 1) * w - j * w) l) (j * w) (omega (arith, p.same, in_Buffer)) p.filled (subst (λ (z : ℕ). Filled (λ (m : ℕ). f (j * w + m)) d ys z) (sym long) q));
    }

pub all_written : {A : Type 0} (f : ℕ → A) (d : A) (w n : ℕ) (l : List A) (j : ℕ) → j ≡ n → Written f d w (n * w) l j → l ≡ tabulate (n * w) f
all_written f d w n l j e p = is_tabulate f d l (n * w) p.same (subst (λ (k : ℕ). Filled f d l (k * w)) e p.filled)
