-- A list filtered block by block: the blocks below i are as the whole filter has them, and the others as they were.
use Prim.Native.Nat.{ℕ, ◌+◌, ◌*◌, ◌-◌, ◌≤◌, ◌<◌}
use mathlib.Core.Path.{◌≡◌, refl, sym, ap, ◌∙◌}
use mathlib.Core.Logic.{inl, inr}
use mathlib.Core.List.{List, ◌++◌, append_assoc, append-nil}
use native.Mathlib.Omega.{arith}
use native.Mathlib.Nat.{mul_comm, mul-one, mul-le-mul_right}
use lib.ListN.{length, take, drop, drop_of_length-le}
use lib.Seq.{length-take-le, take_all, take_at, drop_at, take-add, drop-drop}
use lib.Ieee.{Float}
use Rattle.lists.proofs.Stretches.{next, part_length}
use Rattle.lanes.specs.Along.{filter_along}
use Rattle.lanes.specs.declared.Grid.{Grid}
use Rattle.lanes.specs.Bookkeeping.{Fills}
use Rattle.lanes.proofs.Grids.{stride_some}
use Rattle.lanes.proofs.Alongs.{length-along, along_part}

-- block i of `blocks` lies within them
pub within : (i blocks w : ℕ) → i < blocks → i * w + w ≤ blocks * w
within i blocks w h =
    let l : (i + 1) * w ≤ blocks * w = mul-le-mul_right w (omega arith) in
    omega (arith, next i w)

-- as many places are lent as the code says
pub lent : {A : Type 0} (xs : List A) (a w : ℕ) → a + w ≤ length xs → length (take (a + w - a) (drop a xs)) ≡ w
lent xs a w h = part_length xs a (a + w - a) (omega arith) ∙ omega arith

-- `new` up to place a, and `old` from there on
abbrev pub up_to : ℕ → List Float → List Float → List Float
up_to a new old = take a new ++ drop a old

pub up_to_all : (a : ℕ) (new old : List Float) → length new ≡ length old → length old ≤ a → up_to a new old ≡ new
up_to_all a new old e h =
    let short : length new ≤ a = omega arith in
    rw (take_all, drop_of_length-le old h) (append-nil new)

module _ (new old xs : List Float) (a w : ℕ) (same : length new ≡ length old) (fits : a + w ≤ length old) (is : xs ≡ up_to a new old) where
  long : length (take a new) ≡ a
  long = length-take-le a new (omega arith)

  pub still_old : drop a xs ≡ drop a old
  still_old = ap (λ (l : List Float). drop a l) is ∙ drop_at (take a new) (drop a old) a long

  -- one stretch more
  up_to_more : take a xs ++ (take w (drop a new) ++ drop w (drop a xs)) ≡ up_to (a + w) new old
  up_to_more =
      let front : take a xs ≡ take a new = ap (λ (l : List Float). take a l) is ∙ take_at (take a new) (drop a old) a long in
      rw (front, still_old, drop-drop, take-add) (sym (append_assoc (take a new) (take w (drop a new)) (drop (a + w) old)))

-- a block is whole lanes, so it is filtered by itself
pub whole : {grid : Grid} {count : ℕ} → Fills grid count → (k : ℕ) × (grid.lanes * grid.size ≡ k * (grid.size * grid.stride))
whole {grid} g = elim g.lie [
  | inl e ↦ (1, rw e.1 (omega (arith, mul_comm grid.lanes grid.size)))
  | inr e ↦ (grid.lanes, rw (e.1, mul-one) refl)
]

module _ {grid : Grid} {count : ℕ} (g : Fills grid count) (f : List Float → List Float) where
  -- one block more; k is the code's word for the block's length
  pub next_block :
      (old xs ys : List Float) (i k : ℕ) → k ≡ grid.lanes * grid.size → i * (grid.lanes * grid.size) + grid.lanes * grid.size ≤ length old → xs ≡ up_to (i * (grid.lanes * grid.size)) (filter_along f grid.size grid.stride old) old → ys ≡ filter_along f grid.size grid.stride (take k (drop (i * (grid.lanes * grid.size)) xs)) →
      take (i * (grid.lanes * grid.size)) xs ++ (ys ++ drop k (drop (i * (grid.lanes * grid.size)) xs)) ≡ up_to ((i + 1) * (grid.lanes * grid.size)) (filter_along f grid.size grid.stride old) old
  next_block old xs ys i k ek fits is e =
      let w = grid.lanes * grid.size in
      let new = filter_along f grid.size grid.stride old in
      let b = whole g in
      let same : length new ≡ length old = length-along f grid.size grid.stride old in
      let block : ys ≡ take w (drop (i * w) new) =
      e ∙ rw (ek, still_old new old xs (i * w) w same fits is) (along_part f grid.size grid.stride old i b.0 w (omega (arith, g.least)) (stride_some g) b.1 fits) in
      rw (block, ek, next) (up_to_more new old xs (i * w) w same fits is)
