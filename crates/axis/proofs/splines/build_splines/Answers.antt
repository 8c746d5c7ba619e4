-- `axis::splines::build_splines` meets its contract: each arm has the weights of its order.
use Rattle.std.proofs.Common.{◌≡◌, refl, arith}
use lib.Ieee.{sub, of_bits, of_int}
use Rattle.axis.specs.Weights.{leading, leading1, completed, sum_from}
use Rattle.axis.proofs.Weights.{by_order}
use Rattle.axis.proofs.splines.build_splines.Goals.{In_default}
use Rattle.axis.proofs.splines.build_splines.Goals as goal

pub returns-in-0 : goal.returns-in-0
unfolding leading leading1 completed sum_from sub of_bits of_int
returns-in-0 c = by_order c.args.order 0 c.args.to c.base_of.result c.in-0.is c.base_of.ensures refl

pub returns-in-1 : goal.returns-in-1
unfolding leading
returns-in-1 c = by_order c.args.order 1 c.args.to c.base_of.result c.in-1.is c.base_of.ensures c.linear.ensures

pub returns-in-2 : goal.returns-in-2
unfolding leading
returns-in-2 c = by_order c.args.order 2 c.args.to c.base_of.result c.in-2.is c.base_of.ensures c.quadratic.ensures

pub returns-in-3 : goal.returns-in-3
unfolding leading
returns-in-3 c = by_order c.args.order 3 c.args.to c.base_of.result c.in-3.is c.base_of.ensures c.cubic.ensures

pub returns-in-4 : goal.returns-in-4
unfolding leading
returns-in-4 c = by_order c.args.order 4 c.args.to c.base_of.result c.in-4.is c.base_of.ensures c.fourth.ensures

last : (c : In_default) → c.args.order ≡ 5
last c = omega (arith, c.requires)

pub returns-in_default : goal.returns-in_default
unfolding leading
returns-in_default c = by_order c.args.order 5 c.args.to c.base_of.result (last (goal.at.returns-in_default c).In_default) c.base_of.ensures c.fifth.ensures
