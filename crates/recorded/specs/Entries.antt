-- The entry that a word asks for: what asks for none counts as one for the last.
use Rattle.std.specs.Prelude.{ℕ, Bool, true, false, nat_eq, if◌then◌else◌}
use Rattle.recorded.specs.declared.entry.Entry.{Entry}
use Rattle.recorded.specs.declared.entry.Entry.TheVariants.{Shift, Zoom, SplineFilter, SplineFilter1d}

abbrev pub entry_of : ℕ → Entry
entry_of word = if nat_eq word 0 then Shift else if nat_eq word 1 then Zoom else if nat_eq word 2 then SplineFilter else SplineFilter1d

-- whether it has a use for coverage and work
abbrev pub samples : Entry → Bool
samples Shift = true
samples Zoom = true
samples _ = false
