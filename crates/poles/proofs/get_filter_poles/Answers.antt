-- `poles::get_filter_poles` meets its contract: each arm has the bits of the table.
use mathlib.Core.Path.{◌≡◌}
use native.Mathlib.Omega.{arith}
use Rattle.poles.specs.Poles.{poles_of}
use Rattle.poles.proofs.get_filter_poles.Goals as goal

pub returns-in-2 : goal.returns-in-2
unfolding poles_of
returns-in-2 c = rw c.in-2.is

pub returns-in-3 : goal.returns-in-3
unfolding poles_of
returns-in-3 c = rw c.in-3.is

pub returns-in-4 : goal.returns-in-4
unfolding poles_of
returns-in-4 c = rw c.in-4.is

pub returns-in_default : goal.returns-in_default
unfolding poles_of
returns-in_default c =
    let e : c.args.order ≡ 5 = omega (arith, c.requires) in
    rw e
