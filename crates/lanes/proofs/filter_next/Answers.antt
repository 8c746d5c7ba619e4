-- `lanes::filter_next` meets its contract: each line that was taken is filtered and put back to its lane.
use Prim.Native.Nat.{◌+◌, ◌-◌}
use mathlib.Core.Path.{◌≡◌, ap, ◌∙◌}
use mathlib.Core.List.{List}
use native.Mathlib.Omega.{arith}
use lib.Ieee.{Float}
use Rattle.lane.specs.Bookkeeping.{filter_by}
use Rattle.lane.proofs.Lines.{lane_at}
use Rattle.lanes.proofs.Replacements.{alike}
use Rattle.lanes.proofs.filter_next.Goals as goal

pub returns : goal.returns
returns g c =
    let a = c.args in
    let f : List Float → List Float = filter_by a.filter in
    alike
    (λ k h low high.
    let place : a.j + (k - a.j) ≡ k = omega arith in
    lane_at f a.grid.size c.take_next.new.lines c.filter_lines.new.lines c.filter_lines.ensures (k - a.j) (omega (arith, c.take_next.ensures.long))
    ∙ ap f (rw place at (c.take_next.ensures.taken (k - a.j) (omega arith) (omega arith))))
    c.put_next.ensures
