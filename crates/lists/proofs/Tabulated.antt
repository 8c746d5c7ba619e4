-- A tabulated list: its length, what stands at a place, and when a list is one.
use Prim.Native.Nat.{ℕ, zero, suc, ◌≤◌, ◌<◌}
use mathlib.Core.Path.{◌≡◌, refl, ap, sym, ◌∙◌}
use mathlib.Core.List.{List, ◌∷◌}
use native.Mathlib.Nat.{zero-lt-suc, not-suc-le-zero, le_of_suc-le-suc}
use native.Mathlib.Omega.{arith}
use lib.ListN.{length, get_or, take}
use lib.Seq.{ext_get_or, get_or-take, length-take-le}
use Rattle.lists.specs.Tabulate.{tabulate}
use Rattle.lists.specs.Bookkeeping.{Filled}

pub length-tabulate : {A : Type 0} (n : ℕ) (f : ℕ → A) → length (tabulate n f) ≡ n
unfolding tabulate
length-tabulate zero f = refl
length-tabulate (suc n) f = ap suc (length-tabulate n (λ i. f (suc i)))

pub get_d_tabulate : {A : Type 0} (n : ℕ) (f : ℕ → A) (d : A) (i : ℕ) → i < n → get_or (tabulate n f) i d ≡ f i
unfolding tabulate
get_d_tabulate zero f d i h = absurd (not-suc-le-zero h)
get_d_tabulate (suc n) f d zero h = refl
get_d_tabulate (suc n) f d (suc i) h = get_d_tabulate n (λ j. f (suc j)) d i (le_of_suc-le-suc h)

-- a list that is filled to its end
pub is_tabulate : {A : Type 0} (f : ℕ → A) (d : A) (l : List A) (n : ℕ) → length l ≡ n → Filled f d l n → l ≡ tabulate n f
is_tabulate f d l n e h = ext_get_or d l (tabulate n f) (e ∙ sym (length-tabulate n f)) (λ i k. h i (omega arith) ∙ sym (get_d_tabulate n f d i (omega arith)))

-- the front of a list that is filled that far
pub take-tabulate : {A : Type 0} (f : ℕ → A) (d : A) (l : List A) (n : ℕ) → n ≤ length l → Filled f d l n → take n l ≡ tabulate n f
take-tabulate f d l n e h = is_tabulate f d (take n l) n (length-take-le n l e) (λ m k. get_or-take n l m d k ∙ h m k)

-- only the places below n count
pub tabulate_same : {A : Type 0} (n : ℕ) (f g : ℕ → A) → ((i : ℕ) → i < n → f i ≡ g i) → tabulate n f ≡ tabulate n g
unfolding tabulate
tabulate_same zero f g h = refl
tabulate_same (suc n) f g h = λ i. h 0 (zero-lt-suc n) i ∷ tabulate_same n (λ j. f (suc j)) (λ j. g (suc j)) (λ j k. h (suc j) (Prim.Native.Nat.suc-le-suc k)) i
