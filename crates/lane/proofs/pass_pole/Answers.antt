-- `lane::pass_pole` meets its contract.
use Rattle.lane.proofs.Filters.{pole_steps}
use Rattle.lane.proofs.pass_pole.Goals as goal

pub returns : goal.returns
returns g c = rw (c.anticausal_pass.ensures, c.start_anticausals.ensures.after, c.causal_pass.ensures, c.start_causals.ensures) (pole_steps _ _ _)
