-- How lanes lie in a buffer, and what writing some of them back leaves.
use Rattle.std.specs.Prelude.{ℕ, ◌+◌, ◌*◌, ◌≤◌, ◌<◌, ◌≡◌, ◌⊎◌, List, length, Float}
use Rattle.limits.specs.Limits.{longest_padded}
use Rattle.lane.specs.Lane.{at}
use Rattle.lanes.specs.declared.Grid.{Grid}
use Rattle.lanes.specs.Along.{lane_of}

-- lanes fill a buffer: side by side, as those of an axis whose numbers lie in different rows or planes, or end to end, as rows
pub record Fills (g : Grid) (count : ℕ) : Type 0 where
  pub least : 2 ≤ g.size
  pub most : g.size ≤ longest_padded
  pub some : 1 ≤ g.lanes
  pub all : count ≡ g.lanes * g.size
  pub lie : ((g.step ≡ 1) × (g.stride ≡ g.lanes)) ⊎ ((g.step ≡ g.size) × (g.stride ≡ 1))

-- ys is xs with the first n numbers of c in the lane that starts at `start`
pub record Written (n stride start : ℕ) (c xs ys : List Float) : Type 0 where
  pub same : length ys ≡ length xs
  pub lane : (i : ℕ) → i < n → at ys (start + i * stride) ≡ at c i
  pub rest : (m : ℕ) → ((i : ℕ) → i < n → m ≡ start + i * stride → ⊥) → at ys m ≡ at xs m

-- ys is xs with the lanes from `from` up to, not including, `to` replaced, lane k by c k
pub record Replaced (g : Grid) (from to : ℕ) (c : ℕ → List Float) (xs ys : List Float) : Type 0 where
  pub same : length ys ≡ length xs
  pub new : (k i : ℕ) → k < g.lanes → i < g.size → from ≤ k → k < to → at ys (k * g.step + i * g.stride) ≡ at (c k) i
  pub rest : (k i : ℕ) → k < g.lanes → i < g.size → (k < from) ⊎ (to ≤ k) → at ys (k * g.step + i * g.stride) ≡ at xs (k * g.step + i * g.stride)

-- f of each lane
abbrev pub lanes_by : (List Float → List Float) → Grid → List Float → ℕ → List Float
lanes_by f g xs k = f (lane_of g.size g.stride (k * g.step) xs)
