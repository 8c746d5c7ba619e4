-- What the functions of this crate ask of an index.
use Rattle.std.specs.Prelude.{ℕ, ◌<◌, List, get_or}
use Rattle.request.specs.declared.Axes.{Axes}

-- an index for each axis that refusal 11 lets pass
pub record Inside (a : Axes) (at : List ℕ) : Type 0 where
  pub x : get_or at 0 0 < a.x.out
  pub y : get_or at 1 0 < a.y.out
  pub z : get_or at 2 0 < a.z.out
