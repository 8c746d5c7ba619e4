-- `voxels::table::put_column` meets its contract: the first k places of the column are set.
use mathlib.Core.Path.{◌≡◌, ◌∙◌}
use native.Mathlib.Omega.{arith}
use Rattle.std.proofs.lemmas.List.{get_or_default}
use Rattle.voxels.proofs.Tables.{column-none, column_more}
use Rattle.voxels.proofs.table.put_column.Goals as goal

pub loop-k-init : goal.loop-k-init
loop-k-init g c = λ d. column-none d c.args.i c.args.column.now c.args.table.now

pub loop-k-preserved : goal.loop-k-preserved
loop-k-preserved g c =
    let a = c.args in
    let l = c.loop-k in
    let v = c.index-column-k in
    λ d. column_more d a.i a.column.now a.table.now l.table l.k _ (get_or_default a.column.now l.k v.result d (omega arith)) (omega arith) (omega (arith, c.requires)) (l.auto.table ∙ c.requires.0) (l.invariant d)

pub returns : goal.returns
returns g c =
    let e : c.loop-k.k ≡ 6 = omega arith in
    rw e at c.loop-k.invariant
