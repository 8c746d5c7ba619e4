-- `one_voxel::value::value_of` meets its contract.
use mathlib.Core.Path.{sym, ap, ◌∙◌}
use mathlib.Core.List.{List}
use native.Mathlib.Omega.{arith}
use lib.ListN.{get_or}
use lib.Ieee.{Float}
use lib.Seq.{length-take-le}
use Rattle.request.proofs.Requests.{plain_count, plain_edges, needed_all}
use Rattle.voxels.specs.Voxel.{voxel_at}
use Rattle.one_voxel.proofs.Voxels.{from_work, from_input}
use Rattle.one_voxel.proofs.value.value_of.Goals.{Start}
use Rattle.one_voxel.proofs.value.value_of.Goals as goal

-- the voxel over a source
abbrev voxel : Start → List Float → Float
voxel s xs =
    let a = s.args in
    voxel_at a.r.order a.r.mode a.a.x a.a.y a.a.z xs (get_or a.at 0 0) (get_or a.at 1 0) (get_or a.at 2 0)

pub value_at-requires : goal.value_at-requires
value_at-requires c =
    let p = c.requires.admitted in
    let at = c.requires.inside in
    let f = sym c.filters.ensures ∙ c.if-filters.true in record { data_len = length-take-le c.needed.result c.args.work.now (omega (arith, c.needed.ensures, c.requires.r_in_bounds)) ∙ c.needed.ensures ∙ needed_all c.args.r f ∙ p.long; len_le_longest_padded = (p.rows, p.row); reached = (p.x.each _ at.x, (p.y.each _ at.y, p.z.each _ at.z)) }

pub returns-then-filters : goal.returns-then-filters
returns-then-filters c =
    let a = c.args in
    c.value_at.ensures ∙ ap (voxel (goal.at.returns-then-filters c).Start) (from_work a.r a.input.now a.work.now (sym c.filters.ensures ∙ c.if-filters.true) c.needed.ensures)

pub value_at-requires-else-filters : goal.value_at-requires-else-filters
value_at-requires-else-filters c =
    let p = c.requires.admitted in
    let at = c.requires.inside in
    let f = sym c.filters.ensures ∙ c.if-filters.false in record { data_len = p.all ∙ sym (plain_count c.args.r (plain_edges c.args.r f)) ∙ p.long; len_le_longest_padded = (p.rows, p.row); reached = (p.x.each _ at.x, (p.y.each _ at.y, p.z.each _ at.z)) }

pub returns-else-filters : goal.returns-else-filters
returns-else-filters c =
    let a = c.args in
    c.value_at-else-filters.ensures ∙ ap (voxel (goal.at.returns-else-filters c).Start) (from_input a.r a.input.now a.work.now (sym c.filters.ensures ∙ c.if-filters.false))
