-- A filter along the lanes of a list: what stands at each place, and that a block of whole lanes is filtered by itself.
use Prim.Native.Nat.{ℕ, ◌+◌, ◌*◌, ◌-◌, ◌≤◌, ◌<◌}
use mathlib.Core.Path.{◌≡◌, sym, ap, ◌∙◌}
use mathlib.Core.List.{List}
use native.Mathlib.Omega.{arith}
use native.Mathlib.Nat.{mul_assoc}
use lib.ListN.{length, take, drop}
use lib.Seq.{ext_get_or}
use lib.Ieee.{Float, nan}
use Rattle.lists.proofs.Tabulated.{length-tabulate, get_d_tabulate, tabulate_same}
use Rattle.lists.proofs.Stretches.{in_part, part_length}
use Rattle.lane.specs.Lane.{at}
use Rattle.lanes.specs.Along.{lane_of, along, filter_along}
use Rattle.lanes.proofs.Grids.{along_block, start_within, stays}

-- two lanes with the same numbers
pub lane_same : (n s a b : ℕ) (xs ys : List Float) → ((i : ℕ) → i < n → at xs (a + i * s) ≡ at ys (b + i * s)) → lane_of n s a xs ≡ lane_of n s b ys
unfolding lane_of
lane_same n s a b xs ys h = tabulate_same n _ _ h

module _ (f : List Float → List Float) (n s : ℕ) where
  pub length-along : (xs : List Float) → length (filter_along f n s xs) ≡ length xs
  unfolding filter_along
  length-along xs = length-tabulate (length xs) _

  pub at-along : (xs : List Float) (m : ℕ) → m < length xs → at (filter_along f n s xs) m ≡ at (f (lane_of n s (m - along n s m * s) xs)) (along n s m)
  unfolding filter_along
  at-along xs m h = get_d_tabulate (length xs) _ nan m h

  -- block i of blocks of w places, which are k times n lanes' width
  pub along_part :
      (xs : List Float) (i k w : ℕ) → 1 ≤ n → 1 ≤ s → w ≡ k * (n * s) → i * w + w ≤ length xs → filter_along f n s (take w (drop (i * w) xs)) ≡ take w (drop (i * w) (filter_along f n s xs))
  along_part xs i k w some apart e fits =
      let a = i * w in
      let part = take w (drop a xs) in
      let whole = filter_along f n s xs in
      let lp : length part ≡ w = part_length xs a w fits in
      let lw : length (take w (drop a whole)) ≡ w = part_length whole a w (omega (arith, length-along xs)) in
      ext_get_or nan (filter_along f n s part) (take w (drop a whole)) (length-along part ∙ lp ∙ sym lw)
      (λ m h.
      let l : m < w = omega (arith, length-along part) in
      let far : along n s (a + m) ≡ along n s m = ap (λ (x : ℕ). along n s (x + m)) (ap (λ (x : ℕ). i * x) e ∙ sym (mul_assoc i k (n * s))) ∙ along_block n s some apart (i * k) m in
      let low : along n s m * s ≤ m = start_within n s some apart m in
      let start : a + m - along n s (a + m) * s ≡ a + (m - along n s m * s) = rw far (omega arith) in
      let lane : lane_of n s (m - along n s m * s) part ≡ lane_of n s (a + (m - along n s m * s)) xs =
      lane_same n s _ _ part xs (λ j b. in_part nan xs a w (m - along n s m * s + j * s) (rw e (stays n s some apart k m j (rw e at l) b)) ∙ ap (λ (x : ℕ). at xs x) (omega arith)) in
      at-along part m (omega arith)
      ∙ ap (λ (c : List Float). at (f c) (along n s m)) lane
      ∙ sym (in_part nan whole a w m l ∙ at-along xs (a + m) (omega arith) ∙ rw (start, far)))
