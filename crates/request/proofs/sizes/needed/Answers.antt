-- `request::sizes::needed` meets its contract.
use Prim.Native.Nat.{ℕ}
use mathlib.Core.List.{List}
use mathlib.Core.Path.{sym, subst}
use Rattle.request.specs.Bookkeeping.{Small}
use Rattle.request.proofs.Requests.{source_small}
use Rattle.request.proofs.sizes.needed.Goals as goal

pub count_of-requires : goal.count_of-requires
count_of-requires c = subst (λ (d : List ℕ). Small d) (sym c.source_dims.ensures) (source_small c.args.r c.requires)
