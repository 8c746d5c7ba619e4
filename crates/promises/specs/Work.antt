-- "Work then begins with the filtered coefficients (needed count); the rest is untouched." What it says of work before and after a success.
use Rattle.std.specs.Prelude.{ℕ, ◌≤◌, ◌≡◌, true, false, List, length, get_or, take, Float}
use Rattle.std.specs.Float.{nan}
use Rattle.request.specs.declared.Request.{Request}
use Rattle.request.specs.Sizes.{filters, needed}
use Rattle.resample.specs.Call.{coefficients}

-- where the request filters
pub record Begins (r : Request) (input after : List Float) : Type 0 where
  pub count : length (coefficients r input) ≡ needed r
  pub front : take (needed r) after ≡ coefficients r input

pub record WorkFiltered (r : Request) (input before after : List Float) : Type 0 where
  pub begins : filters r ≡ true → Begins r input after
  pub rest : (m : ℕ) → needed r ≤ m → get_or after m nan ≡ get_or before m nan
  pub long : length after ≡ length before
  pub unfiltered : filters r ≡ false → (needed r ≡ 0) × (after ≡ before)
