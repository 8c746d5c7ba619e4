-- `prefilter::filter_blocks` meets its contract: the blocks below i are as the filter of the whole has them.
use Prim.Native.Nat.{◌+◌, ◌*◌, ◌-◌, ◌≤◌}
use mathlib.Core.Path.{◌≡◌, ◌∙◌}
use native.Mathlib.Omega.{arith}
use lib.ListN.{length}
use Rattle.lane.specs.Bookkeeping.{filter_by}
use Rattle.lanes.proofs.Alongs.{length-along}
use Rattle.prefilter.proofs.Blocks.{within, up_to_all, next_block}
use Rattle.prefilter.proofs.filter_blocks.Goals as goal

pub loop-i-preserved : goal.loop-i-preserved
loop-i-preserved c =
    let a = c.args in
    let here = c.loop-i in
    let w = a.grid.lanes * a.grid.size in
    let s = here.i * w in
    next_block c.requires.fills (filter_by a.filter) a.«data».now here.«data» c.filter_lanes.new.data here.i (s + w - s) (omega arith) (omega (arith, within here.i a.blocks w (omega arith))) here.invariant c.filter_lanes.ensures

pub returns : goal.returns
returns c =
    let a = c.args in
    let all : c.loop-i.i ≡ a.blocks = omega arith in
    let enough : length a.«data».now ≤ c.loop-i.i * (a.grid.lanes * a.grid.size) = rw all (omega arith) in
    c.loop-i.invariant ∙ up_to_all _ _ _ (length-along _ _ _ _) enough
