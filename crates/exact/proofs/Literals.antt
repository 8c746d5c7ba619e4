-- The literals of the code, which the compiler writes as bits, are the numbers that a definition writes.
use Rattle.std.proofs.Common.{◌≡◌, refl}
use lib.Ieee.{binary64, of_bits, of_int}
use Rattle.exact.specs.Rounded.{num}

pub zero_bits : num 0 ≡ of_bits binary64 0
unfolding of_bits of_int
zero_bits = refl

pub one_bits : num 1 ≡ of_bits binary64 0x3ff0_0000_0000_0000
unfolding of_bits of_int
one_bits = refl

pub two_bits : num 2 ≡ of_bits binary64 0x4000_0000_0000_0000
unfolding of_bits of_int
two_bits = refl
