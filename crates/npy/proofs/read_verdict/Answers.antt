-- `npy::read_verdict` meets its contract.
use mathlib.Core.Path.{sym, ◌∙◌}
use Rattle.npy.proofs.Verdicts.{passed_small}
use Rattle.npy.proofs.read_verdict.Goals as goal

pub count_of-requires : goal.count_of-requires
count_of-requires c = passed_small c.in_ok-d.d (sym c.length_verdict.ensures ∙ c.in_ok-length_verdict.was)
