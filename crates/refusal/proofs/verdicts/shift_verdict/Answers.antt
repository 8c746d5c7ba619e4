-- `refusal::verdicts::shift_verdict` meets its contract: what refusal 3 lets pass is what the rest asks for.
use Rattle.request.specs.Bookkeeping.{Lengths}
use Rattle.request.proofs.Requests.{good_lengths}
use Rattle.refusal.proofs.Firsts.{let_pass}
use Rattle.refusal.proofs.verdicts.shift_verdict.Goals.{In_ok-refuse_if-2}
use Rattle.refusal.proofs.verdicts.shift_verdict.Goals as goal

lengths : (c : In_ok-refuse_if-2) → Lengths c.args.r.dims
lengths c = good_lengths c.args.r.dims (let_pass _ c.bad_lengths.ensures c.refuse_if-2.ensures c.in_ok-refuse_if-2.was)

pub shift_axes-requires : goal.shift_axes-requires
shift_axes-requires c = lengths (goal.at.shift_axes-requires c).In_ok-refuse_if-2

pub resample_verdict-requires : goal.resample_verdict-requires
resample_verdict-requires c = let h = lengths (goal.at.resample_verdict-requires c).In_ok-refuse_if-2 in record { lengths = h; lengths_2 = h }
