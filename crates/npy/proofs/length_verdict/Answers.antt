-- `npy::length_verdict` meets its contract.
use Rattle.request.proofs.Requests.{small, good_lengths}
use Rattle.refusal.proofs.Firsts.{let_pass}
use Rattle.npy.proofs.length_verdict.Goals as goal

pub count_of-requires : goal.count_of-requires
count_of-requires c = let d = c.args.d in small d (good_lengths d (let_pass _ c.bad_lengths.ensures c.refuse_if.ensures c.in_ok-refuse_if.was))
