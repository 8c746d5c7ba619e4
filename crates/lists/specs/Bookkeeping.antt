-- How far a loop has written a buffer.
use Rattle.std.specs.Prelude.{ℕ, ◌<◌, ◌≡◌, List, get_or}

-- each of the first k places of l is what f says
abbrev pub Filled : {A : Type 0} → (ℕ → A) → A → List A → ℕ → Type 0
Filled f d l k = (m : ℕ) → m < k → get_or l m d ≡ f m
