-- `coverage::cover::drop_value` meets its contract.
use mathlib.Core.Path.{◌≡◌, refl}
use lib.Ieee.{Float, of_bits, of_int}
use Rattle.exact.specs.Rounded.{num}
use Rattle.border.specs.declared.BorderMode.{BorderMode}
use Rattle.border.specs.declared.BorderMode.TheVariants.{Constant, Mirror, Nearest, Reflect, Wrap, Replicate}
use Rattle.coverage.specs.Coverage.{drop_value}
use Rattle.coverage.proofs.cover.drop_value.Goals as goal

zero : (mode : BorderMode) → ((fill : Float) → mode ≡ Constant fill → ⊥) → num 0 ≡ drop_value mode
zero (Constant fill) h = absurd (h fill refl)
zero Mirror h = refl
zero Nearest h = refl
zero Reflect h = refl
zero Wrap h = refl
zero Replicate h = refl

pub returns-in_default : goal.returns-in_default
unfolding of_bits of_int
returns-in_default c = zero c.args.mode c.in_default.not-Constant
