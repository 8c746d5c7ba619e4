-- `npy::writer::Draft::put_lengths` meets its contract: there is room for each part.
use Prim.Native.Nat.{ℕ}
use native.Mathlib.Omega.{arith}
use mathlib.Core.Path.{ap}
use lib.ListN.{length, get_or, length-append}
use Rattle.npy.proofs.Numerals.{decimal-length}
use Rattle.npy.proofs.writer.Draft.put_lengths.Goals as goal

pub put-requires : goal.put-requires
put-requires c = omega (arith, length-append {A = ℕ}, ap length c.put_decimal.ensures, decimal-length (get_or c.args.d 0 0))

pub put_decimal-requires-2 : goal.put_decimal-requires-2
put_decimal-requires-2 c = omega (arith, length-append {A = ℕ}, ap length c.put_decimal.ensures, decimal-length (get_or c.args.d 0 0), ap length c.put.ensures)

pub put-requires-2 : goal.put-requires-2
put-requires-2 c =
    omega (arith, length-append {A = ℕ}, ap length c.put_decimal.ensures, decimal-length (get_or c.args.d 0 0), ap length c.put.ensures, ap length c.put_decimal-2.ensures, decimal-length (get_or c.args.d 1 0))

pub put_decimal-requires-3 : goal.put_decimal-requires-3
put_decimal-requires-3 c =
    omega (arith, length-append {A = ℕ}, ap length c.put_decimal.ensures, decimal-length (get_or c.args.d 0 0), ap length c.put.ensures, ap length c.put_decimal-2.ensures, decimal-length (get_or c.args.d 1 0), ap length c.put-2.ensures)
