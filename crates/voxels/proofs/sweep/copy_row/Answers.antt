-- `voxels::sweep::copy_row` meets its contract: the voxels so far are those of the places passed.
use native.Mathlib.Omega.{arith}
use lib.Ieee.{nan}
use Rattle.lists.proofs.Tabulated.{is_tabulate}
use Rattle.voxels.proofs.sweep.copy_row.Goals as goal

pub returns : goal.returns
returns c = is_tabulate _ nan c.loop-k.out _ (omega arith) (λ m h. c.loop-k.invariant m (omega arith))
