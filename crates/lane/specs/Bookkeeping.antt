-- The lanes in lines, their filter, and the steps of a pole, each over a lane or a line.
use Rattle.std.specs.Prelude.{ℕ, ◌+◌, ◌-◌, ◌≤◌, ◌<◌, Bool, List, map, length, get_or, take, set, Float}
use Rattle.exact.specs.Rounded.{◌⊕◌, ◌⊖◌, ◌⊗◌}
use Rattle.poles.specs.declared.Pole.{Pole}
use Rattle.lane.specs.declared.Filter.{Filter}
use Rattle.lane.specs.Lane.{at, init_causal, init_anticausal, filter_lane}

-- the lanes in lines, each the first n numbers of its line
abbrev pub lanes_in : ℕ → List (List Float) → List (List Float)
lanes_in n lines = map (take n) lines

-- each line has room for its lane
abbrev pub Room : ℕ → List (List Float) → Type 0
Room n lines = (k : ℕ) (d : List Float) → k < length lines → n ≤ length (get_or lines k d)

abbrev pub filter_by : Filter → List Float → List Float
filter_by filter = filter_lane filter.reflect filter.poles.now filter.gain

abbrev pub causal_start : Bool → Pole → List Float → List Float
causal_start reflect p c = set c 0 (init_causal reflect p c)

abbrev pub anticausal_start : Bool → Float → List Float → List Float
anticausal_start reflect z c = set c (length c - 1) (init_anticausal reflect z c)

-- number i by the one before it
abbrev pub causal_step : Float → ℕ → List Float → List Float
causal_step z i c = set c i (at c i ⊕ z ⊗ at c (i - 1))

-- number i by the one after it
abbrev pub anticausal_step : Float → ℕ → List Float → List Float
anticausal_step z i c = set c i (z ⊗ (at c (i + 1) ⊖ at c i))
