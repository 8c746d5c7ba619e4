-- How long the writer's numbers are.
use Prim.Native.Nat.{ℕ, ◌≤◌}
use native.Mathlib.Omega.{arith}
use mathlib.Core.List.{List}
use lib.ListN.{length, get_or, length-append}
use Rattle.npy.specs.Bookkeeping.{written_lengths}
use Rattle.npy.proofs.Numerals.{decimal-length}

pub lengths_short : (d : List ℕ) → length (written_lengths d) ≤ 16
lengths_short d = simp length-append (omega (arith, decimal-length (get_or d 0 0), decimal-length (get_or d 1 0), decimal-length (get_or d 2 0)))
