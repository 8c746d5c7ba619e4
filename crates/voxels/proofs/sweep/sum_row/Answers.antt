-- `voxels::sweep::sum_row` meets its contract: the values so far are those of the places passed, those that there are.
use Prim.Native.Nat.{ℕ}
use native.Mathlib.Nat.{not-suc-le-zero}
use native.Mathlib.Omega.{arith}
use mathlib.Core.Path.{refl}
use mathlib.Core.Bool.{false, cond}
use lib.Ieee.{Float, nan}
use lib.ListN.{get_or}
use Rattle.lists.proofs.Tabulated.{is_tabulate}
use Rattle.voxels.specs.Voxel.{tap_of}
use Rattle.voxels.specs.Bookkeeping.{column, sum_of}
use Rattle.voxels.proofs.Sweeping.{put_block}
use Rattle.voxels.proofs.sweep.sum_row.Goals.{Start}
use Rattle.voxels.proofs.sweep.sum_row.Goals as goal

module _ (s : Start) where
  abbrev sum : ℕ → Float
  sum m =
      let row = s.args.row.now in
      sum_of row.source (tap_of row.x.now) (tap_of row.y.now) (column row.table.now m)

  abbrev value : ℕ → Float
  value m = cond (get_or s.args.row.now.table.now.kept m false) (sum m) s.args.dropped

pub loop-o-init : goal.loop-o-init
loop-o-init c = λ m h _. absurd (not-suc-le-zero h)

pub loop-o-preserved : goal.loop-o-preserved
loop-o-preserved c =
    let s = (goal.at.loop-o-preserved c).Start in
    put_block (value s) c.args.row.now.table.now.kept c.args.dropped (sum s) c.loop-o.out c.loop-o.o c.sum_four.result (λ k. refl) c.sum_four.ensures c.loop-o.invariant c.put_four.ensures

pub returns : goal.returns
returns c = is_tabulate _ nan c.loop-o.out _ (omega arith) (λ m h. c.loop-o.invariant m (omega arith) (omega arith))

pub returns-2 : goal.returns-2
returns-2 c =
    let s = (goal.at.returns-2 c).Start in
    let block = put_block (value s) c.args.row.now.table.now.kept c.args.dropped (sum s) c.loop-o.out c.loop-o.o c.sum_four.result (λ k. refl) c.sum_four.ensures c.loop-o.invariant c.put_four.ensures in
    is_tabulate _ nan c.put_four.new.out _ (omega arith) (λ m h. block m (omega arith) (omega arith))
