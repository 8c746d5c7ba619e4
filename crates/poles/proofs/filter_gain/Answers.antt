-- `poles::filter_gain` meets its contract: each arm has the bits of the table.
use mathlib.Core.Path.{◌≡◌}
use native.Mathlib.Omega.{arith}
use Rattle.poles.specs.Poles.{gain_table}
use Rattle.poles.proofs.Gains.{gain_as_defined}
use Rattle.poles.proofs.filter_gain.Goals as goal

pub returns-in-2 : goal.returns-in-2
unfolding gain_table
returns-in-2 c = rw c.in-2.is (gain_as_defined 0)

pub returns-in-3 : goal.returns-in-3
unfolding gain_table
returns-in-3 c = rw c.in-3.is (gain_as_defined 1)

pub returns-in-4 : goal.returns-in-4
unfolding gain_table
returns-in-4 c = rw c.in-4.is (gain_as_defined 2)

pub returns-in_default : goal.returns-in_default
unfolding gain_table
returns-in_default c =
    let e : c.args.order ≡ 5 = omega (arith, c.requires) in
    rw e (gain_as_defined 3)
