-- "Coordinate = (index + shift) * ratio + pad, each operation rounded once." And which coordinates are kept.
use Rattle.std.specs.Prelude.{ℕ, ◌+◌, ◌-◌, ◌*◌, Bool, true, false, cond, ◌&&◌, nat_lt, Float}
use Rattle.std.specs.Float.Ieee.{neg, lt}
use Rattle.limits.specs.Limits.{single, edge_of}
use Rattle.exact.specs.Rounded.{◌⊕◌, ◌⊖◌, ◌⊗◌, ◌⊘◌, num}
use Rattle.border.specs.Fold.{fold}
use Rattle.border.specs.declared.BorderMode.{BorderMode}
use Rattle.border.specs.declared.BorderMode.TheVariants.{Constant, Mirror, Nearest, Reflect, Wrap, Replicate}
use Rattle.axis.specs.declared.coordinate.Axis.{Axis}
use Rattle.axis.specs.declared.coordinate.When.{When}
use Rattle.axis.specs.declared.coordinate.When.TheVariants.{Never, WithPad, BeforePad}

-- "Pad is 12.0 for Nearest with prefilter and order above 1, else 0.0; the axis length is then 24 longer." #104: a sixth mode "with the same prefilter and pad as Nearest".
abbrev pub pads : BorderMode → Bool
pads (Constant fill) = false
pads Mirror = false
pads Nearest = true
pads Reflect = false
pads Wrap = false
pads Replicate = true

abbrev pub has_pad : BorderMode → Bool → ℕ → Bool
has_pad mode prefilter order = prefilter && nat_lt 1 order && pads mode

-- by axis (#106): one of length 1 is "not padded"
abbrev pub pad_of : BorderMode → Bool → ℕ → ℕ → ℕ
pad_of mode prefilter order length = cond (has_pad mode prefilter order) (edge_of length) 0

-- "Shift negates each shift and has ratio 1.0."
abbrev pub shift_axis : ℕ → Float → ℕ → Axis
shift_axis length shift pad = record { len = length + 2 * pad; out = length; shift = neg shift; ratio = num 1; pad = num pad }

-- Zoom's "ratio is (length - 1) / (output length - 1), one division, and its shift is 0.0." On an axis of length 1, which stays 1, that would be 0 / 0: there the ratio is shift's.
abbrev pub zoom_axis : ℕ → ℕ → ℕ → Axis
zoom_axis length out pad = record { len = length + 2 * pad; out = out; shift = num 0; ratio = cond (single length) (num 1) (num (length - 1) ⊘ num (out - 1)); pad = num pad }

-- the coordinate, and the length, before the pad
unfoldable pub unpadded : Axis → ℕ → Float
unpadded a i = (num i ⊕ a.shift) ⊗ a.ratio

abbrev pub unpadded_length : Axis → Float
unpadded_length a = num a.len ⊖ num 2 ⊗ a.pad

unfoldable pub coordinate : Axis → ℕ → Float
unfolding unpadded
coordinate a i = unpadded a i ⊕ a.pad

-- "Every mode but Nearest folds the coordinate by `map_coordinates`. Nearest is not folded here." #104: a sixth mode "clamps the coordinate to 0 and L - 1 before anything else", and "the clamp then takes the unpadded coordinate".
abbrev pub folds : BorderMode → When
folds (Constant fill) = WithPad
folds Mirror = WithPad
folds Nearest = Never
folds Reflect = WithPad
folds Wrap = WithPad
folds Replicate = BeforePad

abbrev pub settled_by : When → BorderMode → Axis → ℕ → Float
settled_by Never mode a i = coordinate a i
settled_by WithPad mode a i = fold mode (coordinate a i) (num a.len)
settled_by BeforePad mode a i = fold mode (unpadded a i) (unpadded_length a) ⊕ a.pad

-- #106: an axis of length 1 is "not folded"
unfoldable pub settled : BorderMode → Axis → ℕ → Float
unfolding unpadded coordinate fold
settled mode a i = cond (single a.len) (coordinate a i) (settled_by (folds mode) mode a i)

-- "In every mode the coordinate that now stands is dropped on that axis if it is at or below -1; above -1 it is kept."
abbrev pub kept : Float → Bool
kept to = lt (neg (num 1)) to
