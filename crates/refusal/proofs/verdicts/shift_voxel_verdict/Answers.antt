-- `refusal::verdicts::shift_voxel_verdict` meets its contract: document 01's nine, and 11 where they let pass.
use mathlib.Core.Path.{sym, ◌∙◌}
use Rattle.refusal.specs.declared.Asked.TheVariants.{Voxel}
use Rattle.refusal.specs.Refusals.{shift_checks, index_checks}
use Rattle.refusal.proofs.Firsts.{passed_on}
use Rattle.refusal.proofs.verdicts.shift_voxel_verdict.Goals as goal

pub returns : goal.returns
returns c =
    let a = c.args in
    c.index_verdict.ensures ∙ sym (passed_on (shift_checks Voxel a.r a.input.now a.value a.code a.work) (index_checks a.r.dims a.at) (sym c.shift_verdict.ensures ∙ c.in_ok-shift_verdict.was))
