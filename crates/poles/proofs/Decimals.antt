-- Each pole of the table, in source order, is its decimal to six places: one test, computed over both tables.
use lib.Dec.{T}
use lib.Ieee.{of_bits}
use Rattle.poles.specs.Poles.{pole_table}
use Rattle.poles.specs.Decimals.{decimals, near_decimal, all_near_decimals}

pub poles_near_decimals : T (all_near_decimals pole_table decimals)
unfolding pole_table decimals near_decimal of_bits
poles_near_decimals = tt
