-- The stored gains are the defined ones: one test, computed over the table.
use Prim.Native.Nat.{ℕ}
use mathlib.Core.Path.{◌≡◌, refl, ap}
use mathlib.Core.List.{List, map}
use lib.ListN.{get_or}
use lib.Ieee.{Float, nan, of_bits, of_int, mul, sub, div}
use Rattle.poles.specs.Poles.{gain_table, poles_of, gain_of}

abbrev pub stored_gains : List Float
stored_gains = map (λ l. l.gain) gain_table

abbrev pub defined_gains : List Float
defined_gains = map (λ l. gain_of (poles_of l.order)) gain_table

pub gains_as_defined : stored_gains ≡ defined_gains
unfolding gain_table poles_of gain_of of_bits of_int mul sub div
gains_as_defined = refl

-- line k of the table
pub gain_as_defined : (k : ℕ) → get_or stored_gains k nan ≡ get_or defined_gains k nan
gain_as_defined k = ap (λ (gains : List Float). get_or gains k nan) gains_as_defined
