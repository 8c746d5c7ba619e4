-- The passes, step by step, over a lane and over the lanes in lines.
use Prim.Native.Nat.{ℕ, zero, suc, ◌+◌, ◌-◌, ◌≤◌, ◌<◌}
use mathlib.Core.Path.{◌≡◌, refl, sym, ap, ◌∙◌}
use mathlib.Core.Logic.{⊎_elim}
use mathlib.Core.List.{List, [], ◌∷◌, map}
use native.Mathlib.Nat.{eq-or-lt_of_le}
use native.Mathlib.Omega.{arith}
use lib.ListN.{length, get_or, take, length-set, length-take}
use lib.Seq.{get_or-take, get_or-set_same, get_or-set_other, take-set-lt, length-take-le}
use lib.Ieee.{Float, nan}
use Rattle.std.proofs.lemmas.List.{map-id}
use Rattle.lists.proofs.Tabulated.{is_tabulate}
use Rattle.lane.specs.Lane.{at, causal_at, causal, anticausal_at, anticausal}
use Rattle.lane.specs.Bookkeeping.{lanes_in, Room, causal_step, anticausal_step}

-- ---- the forward pass: number 0 stays, and k more are passed
pub forward : Float → ℕ → List Float → List Float
forward z zero c = c
forward z (suc k) c = causal_step z (suc k) (forward z k c)

length-forward : (z : Float) (k : ℕ) (c : List Float) → length (forward z k c) ≡ length c
unfolding forward
length-forward z zero c = refl
length-forward z (suc k) c = length-set (forward z k c) (suc k) _ ∙ length-forward z k c

ahead : (z : Float) (k : ℕ) (c : List Float) (m : ℕ) → k < m → at (forward z k c) m ≡ at c m
unfolding forward
ahead z zero c m h = refl
ahead z (suc k) c m h = get_or-set_other (forward z k c) (suc k) m _ nan (λ e. omega arith) ∙ ahead z k c m (omega arith)

passed : (z : Float) (k : ℕ) (c : List Float) (m : ℕ) → m ≤ k → m < length c → at (forward z k c) m ≡ causal_at z c m
unfolding forward causal_at
passed z zero c m h l =
    let e : m ≡ 0 = omega arith in
    rw e
passed z (suc k) c m h l =
    ⊎_elim
    (λ e.
    let before : suc k - 1 ≡ k = omega arith in
    rw e (get_or-set_same (forward z k c) (suc k) _ nan (omega (arith, length-forward z k c)) ∙ rw (before, ahead z k c (suc k) (omega arith), passed z k c k (omega arith) (omega arith))))
    (λ b. get_or-set_other (forward z k c) (suc k) m _ nan (λ e. omega arith) ∙ passed z k c m (omega arith) l)
    (eq-or-lt_of_le h)

pub forward_is : (z : Float) (k : ℕ) (c : List Float) → length c ≤ k + 1 → forward z k c ≡ causal z c
unfolding causal
forward_is z k c h = is_tabulate (causal_at z c) nan (forward z k c) (length c) (length-forward z k c) (λ m l. passed z k c m (omega arith) l)

-- ---- the backward pass: the last number stays, and j before it are passed
pub backward : Float → ℕ → ℕ → List Float → List Float
backward z n zero c = c
backward z n (suc j) c = anticausal_step z (n - 1 - suc j) (backward z n j c)

length-backward : (z : Float) (n j : ℕ) (c : List Float) → length (backward z n j c) ≡ length c
unfolding backward
length-backward z n zero c = refl
length-backward z n (suc j) c = length-set (backward z n j c) (n - 1 - suc j) _ ∙ length-backward z n j c

module _ (z : Float) (n : ℕ) (c : List Float) (long : length c ≡ n) where
  behind : (j m : ℕ) → m + j < n - 1 → at (backward z n j c) m ≡ at c m
  unfolding backward
  behind zero m h = refl
  behind (suc j) m h = get_or-set_other (backward z n j c) (n - 1 - suc j) m _ nan (λ e. omega arith) ∙ behind j m (omega arith)

  turned : (j m : ℕ) → j < n → n ≤ m + j + 1 → m < n → at (backward z n j c) m ≡ anticausal_at z c (n - 1 - m)
  unfolding backward anticausal_at
  turned zero m b h l =
      let e : n - 1 - m ≡ 0 = omega arith in
      let last : length c - 1 ≡ m = omega arith in
      rw (e, last)
  turned (suc j) m b h l =
      let low : n - 1 - suc j ≤ m = omega arith in
      ⊎_elim
      (λ e.
      let after : n - 1 - suc j + 1 ≡ n - 1 - j = omega arith in
      let steps : n - 1 - (n - 1 - suc j) ≡ suc j = omega arith in
      let back : n - 1 - (n - 1 - j) ≡ j = omega arith in
      rw (← e, steps) (get_or-set_same (backward z n j c) (n - 1 - suc j) _ nan (omega (arith, length-backward z n j c)) ∙ rw (after, behind j (n - 1 - suc j) (omega arith), turned j (n - 1 - j) (omega arith) (omega arith) (omega arith), back, long)))
      (λ k. get_or-set_other (backward z n j c) (n - 1 - suc j) m _ nan (λ e. omega arith) ∙ turned j m (omega arith) (omega arith) l)
      (eq-or-lt_of_le low)

  pub backward_is : backward z n (n - 1) c ≡ anticausal z c
  unfolding anticausal
  backward_is = is_tabulate (λ i. anticausal_at z c (length c - 1 - i)) nan (backward z n (n - 1) c) (length c) (length-backward z n (n - 1) c) (λ m l. turned (n - 1) m (omega arith) (omega arith) (omega arith) ∙ rw long)

-- ---- over the lanes in lines
pub map_then : {A B C : Type 0} (f : B → C) (g : A → B) (h : A → C) (xs : List A) → ((k : ℕ) (d : A) → k < length xs → f (g (get_or xs k d)) ≡ h (get_or xs k d)) → map f (map g xs) ≡ map h xs
map_then f g h [] e = refl
map_then f g h (x ∷ xs) e = λ i. e 0 x (omega arith) i ∷ map_then f g h xs (λ k d l. e (suc k) d (omega arith)) i

-- what is done to lines is done to their lanes
of_lanes : (f : List Float → List Float) (n : ℕ) (lines : List (List Float)) → ((line : List Float) → take n (f line) ≡ f (take n line)) → lanes_in n (map f lines) ≡ map f (lanes_in n lines)
of_lanes f n lines e = map_then (take n) f (λ line. f (take n line)) lines (λ k d l. e (get_or lines k d)) ∙ sym (map_then f (take n) (λ line. f (take n line)) lines (λ k d l. refl))

-- what comes to the same on the lanes
on_lanes : (f g : List Float → List Float) (n : ℕ) (lines : List (List Float)) → ((k : ℕ) (d : List Float) → k < length lines → f (take n (get_or lines k d)) ≡ g (take n (get_or lines k d))) → map f (lanes_in n lines) ≡ map g (lanes_in n lines)
on_lanes f g n lines e = map_then f (take n) (λ line. g (take n line)) lines e ∙ sym (map_then g (take n) (λ line. g (take n line)) lines (λ k d l. refl))

module _ (z : Float) (n : ℕ) (entry : List (List Float)) where
  pub forward_none : lanes_in n entry ≡ map (forward z 0) (lanes_in n entry)
  unfolding forward
  forward_none = sym (map-id (lanes_in n entry))

  step_forward : (i : ℕ) (line : List Float) → i < n → take n (causal_step z i line) ≡ causal_step z i (take n line)
  step_forward i line h = take-set-lt n line i _ h ∙ rw (get_or-take n line i nan h, get_or-take n line (i - 1) nan (omega arith))

  pub forward_more : (lines : List (List Float)) (i : ℕ) → 1 ≤ i → i < n → lanes_in n lines ≡ map (forward z (i - 1)) (lanes_in n entry) → lanes_in n (map (causal_step z i) lines) ≡ map (forward z (i + 1 - 1)) (lanes_in n entry)
  unfolding forward
  forward_more lines i low high e =
      let next : i + 1 - 1 ≡ suc (i - 1) = omega arith in
      let here : suc (i - 1) ≡ i = omega arith in
      of_lanes (causal_step z i) n lines (λ line. step_forward i line high)
      ∙ ap (map (causal_step z i)) e
      ∙ map_then (causal_step z i) (forward z (i - 1)) (forward z (i + 1 - 1)) (lanes_in n entry) (λ k d l. rw next (rw here))

  pub forward_all : (k : ℕ) → n ≤ k + 1 → map (forward z k) (lanes_in n entry) ≡ map (causal z) (lanes_in n entry)
  forward_all k h = on_lanes (forward z k) (causal z) n entry (λ m d l. forward_is z k (take n (get_or entry m d)) (omega (arith, length-take n (get_or entry m d))))

  pub backward_none : lanes_in n entry ≡ map (backward z n 0) (lanes_in n entry)
  unfolding backward
  backward_none = sym (map-id (lanes_in n entry))

  step_backward : (i : ℕ) (line : List Float) → i + 1 < n → take n (anticausal_step z i line) ≡ anticausal_step z i (take n line)
  step_backward i line h = take-set-lt n line i _ (omega arith) ∙ rw (get_or-take n line i nan (omega arith), get_or-take n line (i + 1) nan h)

  pub backward_more : (lines : List (List Float)) (i : ℕ) → 0 < i → i < n → lanes_in n lines ≡ map (backward z n (n - 1 - i)) (lanes_in n entry) → lanes_in n (map (anticausal_step z (i - 1)) lines) ≡ map (backward z n (n - 1 - (i - 1))) (lanes_in n entry)
  unfolding backward
  backward_more lines i low high e =
      let next : n - 1 - (i - 1) ≡ suc (n - 1 - i) = omega arith in
      let here : n - 1 - suc (n - 1 - i) ≡ i - 1 = omega arith in
      of_lanes (anticausal_step z (i - 1)) n lines (λ line. step_backward (i - 1) line (omega arith))
      ∙ ap (map (anticausal_step z (i - 1))) e
      ∙ map_then (anticausal_step z (i - 1)) (backward z n (n - 1 - i)) (backward z n (n - 1 - (i - 1))) (lanes_in n entry) (λ k d l. rw next (rw here))

  pub backward_all : Room n entry → map (backward z n (n - 1)) (lanes_in n entry) ≡ map (anticausal z) (lanes_in n entry)
  backward_all room = on_lanes (backward z n (n - 1)) (anticausal z) n entry (λ k d l. backward_is z n (take n (get_or entry k d)) (length-take-le n (get_or entry k d) (room k d l)))
