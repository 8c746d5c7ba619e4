-- "Poles are stored with the bits that the oracle's build computes. The mirror start's cut-off counts are 19; 25; 33, 7; 40, 10."
use Rattle.std.specs.Prelude.{ℕ, cond, List, [], ◌∷◌, eqb, Float}
use Rattle.std.specs.Float.{binary64}
use Rattle.std.specs.Float.Ieee.{of_bits}
use Rattle.poles.specs.declared.Pole.{Pole}
use Rattle.exact.specs.Rounded.{◌⊖◌, ◌⊗◌, ◌⊘◌, num}

pub record PoleLine : Type 0 where
  pub order : ℕ
  pub pole : Pole

abbrev line : ℕ → ℕ → ℕ → PoleLine
line order bits cutoff = record { order = order; pole = record { z = of_bits binary64 bits; cutoff = cutoff } }

unfoldable pub pole_table : List PoleLine
pole_table =
    line 2 0xbfc5_f619_980c_4330 19
    ∷ line 3 0xbfd1_2614_5e9e_cd58 25
    ∷ line 4 0xbfd7_2036_f2fc_0780 33
    ∷ line 4 0xbf8c_1c13_efa5_2800 7
    ∷ line 5 0xbfdb_8e8b_e690_8740 40
    ∷ line 5 0xbfa6_10b7_78d2_f280 10
    ∷ []

-- the poles of an order, in the table's order
unfoldable pub of_order : ℕ → List PoleLine → List Pole
of_order order [] = []
of_order order (l ∷ ls) = cond (eqb order l.order) (l.pole ∷ of_order order ls) (of_order order ls)

unfoldable pub poles_of : ℕ → List Pole
unfolding pole_table of_order
poles_of order = of_order order pole_table

-- the source's gain: each pole multiplies in (1 - z) (1 - 1 / z)
abbrev pub gain_factor : Float → Float
gain_factor z = (num 1 ⊖ z) ⊗ (num 1 ⊖ num 1 ⊘ z)

unfoldable pub gain_from : Float → List Pole → Float
gain_from gain [] = gain
gain_from gain (p ∷ ps) = gain_from (gain ⊗ gain_factor p.z) ps

unfoldable pub gain_of : List Pole → Float
unfolding gain_from
gain_of ps = gain_from (num 1) ps

-- an order, and the gain of its poles
pub record GainLine : Type 0 where
  pub order : ℕ
  pub gain : Float

abbrev stored : ℕ → ℕ → GainLine
stored order bits = record { order = order; gain = of_bits binary64 bits }

-- #102: "Store the gain of each order with the bits now computed"; `gain_of` says what the number means
unfoldable pub gain_table : List GainLine
gain_table =
    stored 2 0x4020_0000_0000_0004
    ∷ stored 3 0x4017_ffff_ffff_fffe
    ∷ stored 4 0x4077_ffff_ffff_fb89
    ∷ stored 5 0x405e_0000_0000_00d4
    ∷ []
