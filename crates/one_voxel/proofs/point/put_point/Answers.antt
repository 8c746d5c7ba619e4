-- `one_voxel::point::put_point` meets its contract.
use mathlib.Core.Path.{ap, ◌∙◌}
use mathlib.Core.List.{[], ◌∷◌}
use lib.Ieee.{Float}
use Rattle.axis.specs.declared.point.Point.{Point}
use Rattle.lists.proofs.Stretches.{one_stored}
use Rattle.one_voxel.proofs.point.put_point.Goals as goal

pub returns : goal.returns
returns c = (
  one_stored c.args.coordinate.now c.requires.coordinate_len.0 ∙ ap (λ (x : Float). x ∷ []) c.settled_at.ensures,
  (c.copy_from_slice.ensures.after ∙ ap (λ (p : Point). p.at) c.point_at-p.ensures, c.copy_from_slice-2.ensures.after ∙ ap (λ (p : Point). p.weight) c.point_at-p.ensures),
)
