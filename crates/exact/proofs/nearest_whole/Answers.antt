-- `exact::nearest_whole` meets its contract: each return is what its tests choose (`Rounds`).
use Rattle.std.proofs.Common.{◌≡◌, Bool, pos, refl, ap, ◌∙◌}
use lib.Ieee.{Float, binary64, of_bits, of_int, add, mul, lt, eq}
use Rattle.exact.specs.Whole.{W}
use Rattle.exact.specs.Round.{round_ties_even_f}
use Rattle.exact.proofs.Value.{of_true}
use Rattle.exact.proofs.Rounds.{choose, nearest_steps}
use Rattle.exact.specs.Rounded.{half}
use Rattle.exact.proofs.nearest_whole.Goals.{After-floor-f}
use Rattle.exact.proofs.nearest_whole.Goals as goal

-- what the three tests choose, of the floor that the first call gave
chosen : (c : After-floor-f) {t u v : Bool} → eq c.floor-f.result c.args.x ≡ t → lt c.args.x (add binary64 c.floor-f.result half) ≡ u → lt (add binary64 c.floor-f.result half) c.args.x ≡ v
    → choose t u v c.args.x c.floor-f.result ≡ round_ties_even_f c.args.x
chosen c = nearest_steps c.args.x c.floor-f.result (of_true _ c.well_formed.0.1) c.requires c.floor-f.ensures

pub returns-then-f-x : goal.returns-then-f-x
returns-then-f-x c = chosen (goal.at.returns-then-f-x c).After-floor-f c.if-f-x.true refl refl

pub returns-then-x-middle : goal.returns-then-x-middle
unfolding of_bits
returns-then-x-middle c = chosen (goal.at.returns-then-x-middle c).After-floor-f c.if-f-x.false c.if-x-middle.true refl

pub returns-then-middle-x : goal.returns-then-middle-x
unfolding of_bits of_int
returns-then-middle-x c = chosen (goal.at.returns-then-middle-x c).After-floor-f c.if-f-x.false c.if-x-middle.false c.if-middle-x.true

pub returns-else-middle-x : goal.returns-else-middle-x
unfolding of_bits of_int
returns-else-middle-x c =
    ap (λ (y : Float). mul binary64 y (W (pos 2))) c.floor.ensures
    ∙ chosen (goal.at.returns-else-middle-x c).After-floor-f c.if-f-x.false c.if-x-middle.false c.if-middle-x.false
