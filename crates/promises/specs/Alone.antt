-- #105: one voxel asked for alone. "Refusals: 11, output index outside the output". "Where prefilter applies it reads the coefficients lent in work, and equality holds when they are those the volume engine leaves."
use Rattle.std.specs.Prelude.{ℕ, ◌≤◌, ◌<◌, ◌≡◌, true, List, length, get_or, take, Float}
use Rattle.request.specs.declared.Request.{Request}
use Rattle.request.specs.Sizes.{filters, needed}
use Rattle.resample.specs.Call.{coefficients}

-- on some axis the index is at or beyond the output length
abbrev pub Beyond : List ℕ → List ℕ → Type 0
Beyond d at = (i : ℕ) × (i < 3) × (get_or d i 0 ≤ get_or at i 0)

-- the work that is lent has room, and where prefilter applies it begins with the engine's coefficients
pub record Lends (r : Request) (input work : List Float) : Type 0 where
  pub room : needed r ≤ length work
  pub front : filters r ≡ true → take (needed r) work ≡ coefficients r input
