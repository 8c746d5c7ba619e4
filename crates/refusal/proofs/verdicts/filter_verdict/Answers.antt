-- `refusal::verdicts::filter_verdict` meets its contract.
use Rattle.request.proofs.Requests.{small, good_lengths}
use Rattle.refusal.proofs.Firsts.{let_pass}
use Rattle.refusal.proofs.verdicts.filter_verdict.Goals as goal

pub count_of-count-requires : goal.count_of-count-requires
count_of-count-requires c = let d = c.args.r.dims in small d (good_lengths d (let_pass _ c.bad_lengths.ensures c.refuse_if.ensures c.in_ok-refuse_if.was))
