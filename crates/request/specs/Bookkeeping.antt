-- What the functions of this crate ask of lengths and factors.
use Rattle.std.specs.Prelude.{ℕ, ◌≤◌, ◌<◌, List, get_or}
use Rattle.std.specs.Float.{nan}
use Rattle.limits.specs.Limits.{longest, longest_padded}
use Rattle.axis.specs.Bookkeeping.{Zooms}
use Rattle.request.specs.declared.Request.{Request}

-- lengths that their products can be taken of
abbrev pub Small : List ℕ → Type 0
Small d = (get_or d 0 0 ≤ longest_padded) × ((get_or d 1 0 ≤ longest_padded) × (get_or d 2 0 ≤ longest_padded))

-- lengths that refusal 3 lets pass, or 12 and 5 of an output
abbrev pub Lengths : List ℕ → Type 0
Lengths d = (i : ℕ) → i < 3 → (1 ≤ get_or d i 0) × (get_or d i 0 ≤ longest)

-- factors that refusal 4 lets pass
abbrev pub Zoomed : Request → Type 0
Zoomed r = (i : ℕ) → i < 3 → Zooms (get_or r.dims i 0) (get_or r.factors i nan)
