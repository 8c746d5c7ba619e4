-- `voxels::sweep::sweep` meets its contract.
use Prim.Native.Nat.{◌*◌}
use mathlib.Core.Path.{refl, ◌∙◌}
use Rattle.voxels.specs.declared.source.Source.{Source}
use Rattle.voxels.proofs.Tables.{table_start}
use Rattle.voxels.proofs.Sweeping.{by_table}
use Rattle.voxels.proofs.sweep.sweep.Goals as goal

pub fill-requires-clause-start : goal.fill-requires-clause-start
fill-requires-clause-start c = table_start _ _ _ _ refl (c.requires.reaches.1.1.each 0 c.requires.len_le_longest_padded.1.1).least

pub returns : goal.returns
returns c =
    let a = c.args in
    let p = c.requires in
    let source : Source = record { numbers = a.«data»; plane = a.ya.len * a.za.len; row = a.za.len; order = a.order; order_bound = p.order_bound } in
    c.value_planes.ensures ∙ by_table a.mode source c.fill.new.self a.xa a.ya a.za p.len_le_longest_padded.1.1 refl refl c.fill.ensures.width c.fill.ensures.tabled
