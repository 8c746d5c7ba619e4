-- `coverage::cover::cover` meets its contract: the codes of each axis, and the planes by them.
use mathlib.Core.Path.{◌∙◌}
use native.Mathlib.Omega.{arith}
use Rattle.lists.proofs.Tabulated.{take-tabulate}
use Rattle.coverage.proofs.Covering.{all_covered}
use Rattle.coverage.proofs.cover.cover.Goals as goal

pub returns : goal.returns
returns c =
    let a = c.args in
    c.cover_planes.ensures ∙ all_covered a.order a.mode a.xa a.ya a.za c.requires.out_le_longest.1.1.0
    (take-tabulate _ _ _ a.xa.out (omega arith) c.axis_codes.ensures)
    (take-tabulate _ _ _ a.ya.out (omega arith) c.axis_codes-2.ensures)
    (take-tabulate _ _ _ a.za.out (omega arith) c.axis_codes-3.ensures)
