-- Why demand 3 says "as numbers": at order 1 a shift by nothing of eight voxels -0.0 gives eight voxels 0.0, the same number with other bits.
use mathlib.Core.Path.{◌≡◌, refl}
use mathlib.Core.Bool.{true, false, true≢false}
use mathlib.Core.List.{[]}
use lib.ListN.{replicate}
use lib.Ieee.{neg, sub, mul, div, le, of_int, to_unsigned}
use Rattle.exact.specs.Rounded.{num}
use Rattle.border.specs.declared.BorderMode.TheVariants.{Constant}
use Rattle.voxels.specs.Voxel.{values}
use Rattle.request.specs.declared.Request.{Request}
use Rattle.request.specs.Conditions.{bad_lengths, bad_factors, moves_slices, some_wild, beside_any}
use Rattle.resample.specs.Call.{coefficients, shift_call}

abbrev still : Request
still = record { dims = replicate 3 2; factors = replicate 3 (num 0); order = 1; prefilter = false; mode = Constant (num 1) }

pub sign_lost : (shift_call still (replicate 8 (neg (num 0))) (replicate 8 (num 1)) (replicate 8 1) []).output ≡ replicate 8 (num 0)
unfolding shift_call bad_lengths bad_factors moves_slices some_wild beside_any coefficients values neg sub mul div le to_unsigned
sign_lost = refl

pub two_zeros : neg (num 0) ≡ num 0 → ⊥
unfolding neg of_int
two_zeros e = let q : true ≡ false = cc in true≢false q
