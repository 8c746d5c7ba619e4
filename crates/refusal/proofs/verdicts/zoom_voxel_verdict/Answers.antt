-- `refusal::verdicts::zoom_voxel_verdict` meets its contract: document 01's nine, and 11 where they let pass.
use Prim.Native.Nat.{ℕ}
use mathlib.Core.Path.{sym, ap, ◌∙◌}
use mathlib.Core.List.{List}
use Rattle.request.specs.Sizes.{zoom_dims}
use Rattle.refusal.specs.declared.Asked.TheVariants.{Voxel}
use Rattle.refusal.specs.Refusals.{first, zoom_checks, index_checks}
use Rattle.refusal.proofs.Admitting.{zoom_ready}
use Rattle.refusal.proofs.Firsts.{passed_on}
use Rattle.refusal.proofs.verdicts.zoom_voxel_verdict.Goals as goal

pub zoom_dims-requires : goal.zoom_dims-requires
zoom_dims-requires c =
    let a = c.args in
    (zoom_ready Voxel a.r a.input.now a.value a.code a.work (sym c.zoom_verdict.ensures ∙ c.in_ok-zoom_verdict.was)).0

pub returns : goal.returns
returns c =
    let a = c.args in
    c.index_verdict.ensures
    ∙ ap (λ (out : List ℕ). first (index_checks out a.at)) c.zoom_dims.ensures
    ∙ sym (passed_on (zoom_checks Voxel a.r a.input.now a.value a.code a.work) (index_checks (zoom_dims a.r) a.at) (sym c.zoom_verdict.ensures ∙ c.in_ok-zoom_verdict.was))
