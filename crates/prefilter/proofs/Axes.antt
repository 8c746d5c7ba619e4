-- The lanes of each axis of a volume, and the filter along an axis from its parts.
use Prim.Native.Nat.{ℕ, zero, suc, ◌+◌, ◌*◌, ◌≤◌, ◌<◌}
use mathlib.Core.Path.{◌≡◌, refl}
use mathlib.Core.Logic.{inl, inr}
use mathlib.Core.Bool.{Bool, true, false}
use mathlib.Core.List.{List}
use native.Mathlib.Numerals.{add-one}
use native.Mathlib.Nat.{mul-pos}
use lib.Dec.{lit≤}
use lib.Ieee.{Float}
use Rattle.limits.specs.Limits.{single}
use Rattle.border.specs.declared.BorderMode.{BorderMode}
use Rattle.poles.specs.declared.Pole.{Pole}
use Rattle.poles.specs.Poles.{poles_of, gain_of}
use Rattle.lane.specs.Lane.{reflects, filter_lane}
use Rattle.lanes.specs.Along.{filter_along}
use Rattle.prefilter.specs.Volume.{filter_axis, filter_volume, length_of, stride_of}
use Rattle.prefilter.specs.Bookkeeping.{Sized}
use Rattle.lanes.specs.Bookkeeping.{Fills}

side_by_side : (lanes size : ℕ) → 1 ≤ lanes → 2 ≤ size → size ≤ 4120 → Fills (record { lanes = lanes; size = size; step = 1; stride = lanes }) (lanes * size)
side_by_side lanes size some least most = record { least = least; most = most; some = some; all = refl; lie = inl (refl, refl) }

end_to_end : (lanes size : ℕ) → 1 ≤ lanes → 2 ≤ size → size ≤ 4120 → Fills (record { lanes = lanes; size = size; step = size; stride = 1 }) (lanes * size)
end_to_end lanes size some least most = record { least = least; most = most; some = some; all = refl; lie = inr (refl, refl) }

module _ {d : List ℕ} {count : ℕ} (z : Sized d count) where
  pub some : (axis : ℕ) → axis < 3 → 1 ≤ length_of axis d
  some = z.least

  -- ---- a volume is one block of the lanes of axis 0, and each plane is a block of the lanes of axis 1 and of those of axis 2
  pub across : 2 ≤ length_of 0 d → Fills (record { lanes = stride_of 0 d; size = length_of 0 d; step = 1; stride = stride_of 0 d }) (stride_of 0 d * length_of 0 d)
  across two = side_by_side _ _ (mul-pos (some 1 (lit≤ tt)) (some 2 (lit≤ tt))) two (z.most 0 (lit≤ tt))

  pub down : 2 ≤ length_of 1 d → Fills (record { lanes = length_of 2 d; size = length_of 1 d; step = 1; stride = length_of 2 d }) (length_of 2 d * length_of 1 d)
  down two = side_by_side _ _ (some 2 (lit≤ tt)) two (z.most 1 (lit≤ tt))

  pub rows : 2 ≤ length_of 2 d → Fills (record { lanes = length_of 1 d; size = length_of 2 d; step = length_of 2 d; stride = 1 }) (length_of 1 d * length_of 2 d)
  rows two = end_to_end _ _ (some 1 (lit≤ tt)) two (z.most 2 (lit≤ tt))

  pub of_length : {length : ℕ} → length ≡ count → Sized d length
  of_length e = rw e z

pub along-axis :
    (mode : BorderMode) (order : ℕ) (d : List ℕ) (axis : ℕ) (xs : List Float) {reflect : Bool} {ps : List Pole} {gain : Float} {size stride : ℕ} {ys : List Float} →
    single (length_of axis d) ≡ false → reflect ≡ reflects mode → ps ≡ poles_of order → gain ≡ gain_of (poles_of order) → size ≡ length_of axis d → stride ≡ stride_of axis d →
    ys ≡ filter_along (filter_lane reflect ps gain) size stride xs → ys ≡ filter_axis mode order d axis xs
unfolding filter_axis
along-axis mode order d axis xs s r p g n t h = rw (s, ← r, ← g, ← p, ← n, ← t) h

-- a single slice
pub along-single : (mode : BorderMode) (order : ℕ) (d : List ℕ) (axis : ℕ) (xs : List Float) → single (length_of axis d) ≡ true → filter_axis mode order d axis xs ≡ xs
unfolding filter_axis
along-single mode order d axis xs s = simp s

-- the first k axes in turn
pub turns : BorderMode → ℕ → List ℕ → ℕ → List Float → List Float
turns mode order d zero xs = xs
turns mode order d (suc k) xs = filter_axis mode order d k (turns mode order d k xs)

module _ (mode : BorderMode) (order : ℕ) (d : List ℕ) (xs : List Float) where
  pub no_turn : turns mode order d 0 xs ≡ xs
  unfolding turns
  no_turn = refl

  pub next_turn : (k : ℕ) → filter_axis mode order d k (turns mode order d k xs) ≡ turns mode order d (k + 1) xs
  unfolding turns
  next_turn k = rw add-one

  pub three_turns : turns mode order d 3 xs ≡ filter_volume mode order d xs
  unfolding turns filter_volume
  three_turns = refl
