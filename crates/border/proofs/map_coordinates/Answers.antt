-- `border::map_coordinates` meets its contract: each arm is the definition's at that mode.
use mathlib.Core.Path.{◌≡◌, ◌∙◌, sym, ap}
use lib.Ieee.{Float}
use Rattle.border.specs.declared.BorderMode.{BorderMode}
use Rattle.border.specs.Fold.{fold}
use Rattle.border.proofs.map_coordinates.Goals as goal

-- an arm's result is the fold's, since the mode is that arm's
by_mode : {mode known : BorderMode} {r : Float} (idx len : Float) → r ≡ fold known idx len → mode ≡ known → r ≡ fold mode idx len
by_mode idx len e m = e ∙ sym (ap (λ (k : BorderMode). fold k idx len) m)

pub returns-in-Constant : goal.returns-in-Constant
unfolding fold
returns-in-Constant c = by_mode _ _ c.fold_constant.ensures c.in-Constant.is

pub returns-in-Mirror : goal.returns-in-Mirror
unfolding fold
returns-in-Mirror c = by_mode _ _ c.fold_mirror.ensures c.in-Mirror.is

pub returns-in-Nearest : goal.returns-in-Nearest
unfolding fold
returns-in-Nearest c = by_mode _ _ c.fold_nearest.ensures c.in-Nearest.is

pub returns-in-Reflect : goal.returns-in-Reflect
unfolding fold
returns-in-Reflect c = by_mode _ _ c.fold_reflect.ensures c.in-Reflect.is

pub returns-in-Wrap : goal.returns-in-Wrap
unfolding fold
returns-in-Wrap c = by_mode _ _ c.fold_wrap.ensures c.in-Wrap.is

pub returns-in-Replicate : goal.returns-in-Replicate
unfolding fold
returns-in-Replicate c = by_mode _ _ c.fold_replicate.ensures c.in-Replicate.is
