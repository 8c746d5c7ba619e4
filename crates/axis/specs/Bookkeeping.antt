-- What the functions of this crate ask: the numbers that an admitted request can have.
use Rattle.std.specs.Prelude.{ℕ, ◌<◌, ◌≤◌, true, false, cond, T, pos, Float}
use Rattle.std.specs.Float.{fin}
use Rattle.std.specs.Float.Ieee.{lt, le}
use Rattle.exact.specs.Rounded.{num}
use Rattle.exact.specs.Within.{Within}
use Rattle.limits.specs.Limits.{longest, longest_padded, single}
use Rattle.border.specs.declared.BorderMode.{BorderMode}
use Rattle.axis.specs.declared.coordinate.Axis.{Axis}
use Rattle.axis.specs.declared.coordinate.When.{When}
use Rattle.axis.specs.declared.coordinate.When.TheVariants.{Never}
use Rattle.axis.specs.Coordinate.{unpadded, folds, kept}

-- what refusals 3 and 4 let pass: a length up to 4,096, and a factor above 0 and up to 4,096
pub record Zooms (length : ℕ) (factor : Float) : Type 0 where
  pub short : length ≤ longest
  pub above : T (lt (num 0) factor)
  pub most : T (le factor (num 4096))

-- when a coordinate is folded on an axis of this length: `settled` in one question
abbrev pub folds_on : ℕ → BorderMode → When
folds_on len mode = cond (single len) Never (folds mode)

-- x can be cut to an index: it is above -1 and below 2^64
abbrev pub Indexes : Float → Type 0
Indexes x = T (lt (fin true 1 (pos 0)) x) × T (lt x (fin false 1 (pos 64)))

-- an order, an axis and an output index that an admitted request can have
pub record Reached (order : ℕ) (a : Axis) (i : ℕ) : Type 0 where
  pub upto : order ≤ 5
  pub least : 1 ≤ a.len
  pub most : a.len ≤ longest_padded
  pub bound : Within 25 (unpadded a i)
  pub pad : Within 25 a.pad

-- and a coordinate that is kept there, with the order that its axis is read at
pub record Kept (order len : ℕ) (to : Float) : Type 0 where
  pub upto : order ≤ 5
  pub least : 1 ≤ len
  pub two : 1 ≤ order → 2 ≤ len
  pub most : len ≤ longest_padded
  pub bound : Within 30 to
  pub above : T (kept to)

-- an axis all of whose output indices a request can have
pub record Reaches (order : ℕ) (a : Axis) : Type 0 where
  pub short : a.out ≤ longest
  pub each : (i : ℕ) → i < a.out → Reached order a i
