-- A list that a loop changes place after place, and the lanes in lines that it changes one after another.
use Prim.Native.Nat.{ℕ, ◌+◌, ◌≤◌, ◌<◌}
use mathlib.Core.Path.{◌≡◌, refl, sym, ap, ◌∙◌}
use mathlib.Core.Logic.{dite}
use native.Mathlib.Decide.{dec_lt}
use mathlib.Core.List.{List, [], ◌++◌, map, append-nil}
use native.Mathlib.Omega.{arith}
use lib.ListN.{length, get_or, take, drop, set, length-map, length-append, length-take, length-drop}
use lib.Seq.{get_or-set_same, get_or-set_other}
use lib.Ieee.{Float}
use Rattle.std.proofs.lemmas.List.{map-set, get_or-map, get_or_default, take_all, drop_all}
use Rattle.std.proofs.lemmas.List.Edits.{map_over_more}
use Rattle.lane.specs.Bookkeeping.{lanes_in}

-- the first k are g of what they were, and the others as they were
pub record Through {A : Type 0} (g : A → A) (k : ℕ) (entry now : List A) : Type 0 where
  pub is : now ≡ map g (take k entry) ++ drop k entry

module _ {A : Type 0} (g : A → A) where
  pub through_none : (entry : List A) → Through g 0 entry entry
  through_none entry = record { is = refl }

  same_length : {entry now : List A} {k : ℕ} → Through g k entry now → length now ≡ length entry
  same_length {entry} {now} {k} t = rw t.is (simp (length-append, length-map, length-take, length-drop) (omega arith))

  pub through_more : {entry now : List A} {k : ℕ} (d : A) → k < length entry → Through g k entry now → Through g (k + 1) entry (set now k (g (get_or now k d)))
  through_more {entry} {now} {k} d there t = record { is = map_over_more g entry now k (get_or now k d) there t.is (get_or_default now k d _ (omega (arith, same_length t))) }

  pub through_all : {entry now : List A} {k : ℕ} → length entry ≤ k → Through g k entry now → now ≡ map g entry
  through_all {entry} {now} {k} enough t = t.is ∙ rw (take_all k entry enough, drop_all k entry enough) (append-nil (map g entry))

pub lines_length : {g : List Float → List Float} {k : ℕ} (n : ℕ) (entry lines : List (List Float)) → Through g k (lanes_in n entry) (lanes_in n lines) → length lines ≡ length entry
lines_length {g} n entry lines t = omega (arith, same_length g t, length-map lines (take n), length-map entry (take n))

-- line k takes its step
pub line_more : (g : List Float → List Float) (entry lines : List (List Float)) (k : ℕ) (line : List Float) → k < length entry → line ≡ g (get_or lines k []) → Through g k entry lines → Through g (k + 1) entry (set lines k line)
line_more g entry lines k line there e t = rw e (through_more g [] there t)

-- line k is given its lane
pub lane_more :
    (g : List Float → List Float) (n : ℕ) (entry lines : List (List Float)) (k : ℕ) (line : List Float) →
    k < length entry → take n line ≡ g (take n (get_or lines k [])) →
    Through g k (lanes_in n entry) (lanes_in n lines) → Through g (k + 1) (lanes_in n entry) (lanes_in n (set lines k line))
lane_more g n entry lines k line there e t =
    let low : k < length (lanes_in n entry) = omega (arith, length-map entry (take n)) in
    let read : get_or (lanes_in n lines) k [] ≡ take n (get_or lines k []) = get_or-map (take n) lines k [] [] (omega (arith, same_length g t, length-map lines (take n))) in
    let v : g (get_or (lanes_in n lines) k []) ≡ take n line = ap g read ∙ sym e in
    record { is = map-set (take n) lines k line ∙ (rw v at (through_more g [] low t).is) }

pub room_more : (n : ℕ) (lines : List (List Float)) (k : ℕ) (line : List Float) → k < length lines → n ≤ length line → ((m : ℕ) (d : List Float) → m < k → n ≤ length (get_or lines m d)) → (m : ℕ) (d : List Float) → m < k + 1 → n ≤ length (get_or (set lines k line) m d)
room_more n lines k line there h below m d l =
    dite
    (dec_lt m k)
    (λ b. rw (get_or-set_other lines k m line d (λ t. omega arith)) (below m d b))
    (λ b.
    let e : m ≡ k = omega arith in
    rw (e, get_or-set_same lines k line d there) h)

-- line m, where each lane is f of what it was
pub lane_at : (f : List Float → List Float) (n : ℕ) (entry lines : List (List Float)) → lanes_in n lines ≡ map f (lanes_in n entry) → (m : ℕ) → m < length entry → take n (get_or lines m []) ≡ f (take n (get_or entry m []))
lane_at f n entry lines e m h =
    let there : m < length (map f (lanes_in n entry)) = simp length-map h in
    let room : m < length lines = omega (arith, length-map lines (take n), rw (← e) at there) in
    sym (get_or-map (take n) lines m [] [] room)
    ∙ ap (λ (lanes : List (List Float)). get_or lanes m []) e
    ∙ get_or-map f (lanes_in n entry) m [] [] (simp length-map h)
    ∙ ap f (get_or-map (take n) entry m [] [] h)
