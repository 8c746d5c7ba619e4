-- `vurelika::vurelika_shift_voxel` meets its contract.
use mathlib.Core.List.{[], ◌∷◌}
use Rattle.request.specs.declared.Request.{Request}
use Rattle.one_voxel.specs.Call.{shift_voxel_call}
use Rattle.numbers.specs.Numbers.{request_of}
use Rattle.vurelika.proofs.Doors.{asked_for, unnumbered, voxel_answers, voxel_unknown}
use Rattle.vurelika.proofs.vurelika_shift_voxel.Goals as goal

pub returns-in-Some : goal.returns-in-Some
returns-in-Some c =
    let a = c.args in
    voxel_answers (λ (r : Request). shift_voxel_call r a.input.now a.work.now (a.x ∷ a.y ∷ a.z ∷ []) a.value.now a.code.now) a.mode (request_of a.d0 a.d1 a.d2 a.f0 a.f1 a.f2 a.order a.prefilter a.mode a.fill) a.value.now a.code.now (asked_for _ c.in-Some.ensures).0 (asked_for _ c.in-Some.ensures).1 c.shift_voxel.ensures c.number_in.ensures

pub returns-in-None : goal.returns-in-None
returns-in-None c = voxel_unknown _ _ _ _ (unnumbered _ _ c.in-None.ensures)
