-- `one_voxel::value::value_at` meets its contract.
use mathlib.Core.Path.{refl, sym, ap, ◌∙◌}
use native.Mathlib.Nat.{mul-one}
use lib.ListN.{get_or}
use Rattle.axis.specs.declared.point.Point.{Point}
use Rattle.voxels.proofs.Sweeping.{point_planes}
use Rattle.one_voxel.proofs.Voxels.{value_kept, value_dropped}
use Rattle.one_voxel.proofs.value.value_at.Goals as goal

pub invariant_of-r : goal.invariant_of-r
invariant_of-r c =
    let a = c.args in
    let reached = c.requires.reached in record {
      in_source = record {
        planes = point_planes a.order a.mode a.a.x _ _ _ _ _ reached.0 (ap (λ (t : Point). t.at) c.point_at-x.ensures) c.requires.data_len;
        rows = point_planes a.order a.mode a.a.y _ _ _ _ _ reached.1.0 (ap (λ (t : Point). t.at) c.point_at-y.ensures) refl;
      };
      places = point_planes a.order a.mode a.a.z _ _ _ _ _ reached.1.1 (ap (λ (t : Point). t.at) c.point_at-z.ensures) (sym (mul-one a.a.z.len));
    }

pub returns-then-all_kept : goal.returns-then-all_kept
returns-then-all_kept c =
    let a = c.args in
    c.computed_at.ensures ∙ value_kept a.order a.mode a.a.x a.a.y a.a.z a.«data».now (get_or a.at 0 0) (get_or a.at 1 0) (get_or a.at 2 0) c.point_at-x.ensures c.point_at-y.ensures c.point_at-z.ensures (sym c.all_kept.ensures ∙ c.if-all_kept.true)

pub returns-else-all_kept : goal.returns-else-all_kept
returns-else-all_kept c =
    let a = c.args in
    c.drop_value.ensures ∙ value_dropped a.order a.mode a.a.x a.a.y a.a.z a.«data».now (get_or a.at 0 0) (get_or a.at 1 0) (get_or a.at 2 0) c.point_at-x.ensures c.point_at-y.ensures c.point_at-z.ensures (sym c.all_kept.ensures ∙ c.if-all_kept.false)
