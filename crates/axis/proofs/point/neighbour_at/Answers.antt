-- `axis::point::neighbour_at` meets its contract.
use Rattle.std.proofs.Common.{◌≡◌, sym, ap, ◌∙◌, subst}
use lib.Ieee.{Float, to_unsigned}
use Rattle.axis.specs.Neighbours.{neighbour, neighbour_index}
use Rattle.axis.specs.Bookkeeping.{Indexes}
use Rattle.axis.proofs.Points.{folded, plain}
use Rattle.axis.proofs.point.neighbour_at.Goals.{Joined-out, then-out, else-out}
use Rattle.axis.proofs.point.neighbour_at.Goals as goal

there_is : (c : Joined-out) → c.if-out.there ≡ neighbour c.args.mode c.args.out c.args.len c.args.first c.args.k
there_is c =
    let a = c.args in
    elim c.if-out.branch [
      | then-out w ↦ w.there-is ∙ folded a.mode a.len a.first a.k c.float_of.ensures w.if-out.true w.float_of-then-out.ensures w.spline_mode.ensures w.map_coordinates-there.ensures
      | else-out w ↦ w.there-is ∙ plain a.mode a.len a.first a.k c.float_of.ensures w.if-out.false
    ]

pub truncating_f64_to_u64-requires : goal.truncating_f64_to_u64-requires
truncating_f64_to_u64-requires c =
    let p = subst (λ (x : Float). Indexes x) (sym (there_is (goal.at.truncating_f64_to_u64-requires c).Joined-out)) c.requires in
    record { lower_bound = p.0; upper_bound = p.1 }

pub returns : goal.returns
unfolding neighbour_index
returns c = c.truncating_f64_to_u64.ensures ∙ ap (to_unsigned 64) (there_is (goal.at.returns c).Joined-out)
