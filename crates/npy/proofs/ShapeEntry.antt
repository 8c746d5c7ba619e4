-- Which entry holds the shape.
use Prim.Native.Nat.{ℕ}
use mathlib.Core.Path.{◌≡◌, refl, ap, ◌∙◌}
use mathlib.Core.Bool.{Bool, false, cond}
use mathlib.Core.List.{List}
use denote.Enum.Bare.{sameb}
use Rattle.npy.specs.contracts.header.Key.{the_type}
use Rattle.npy.specs.declared.header.Key.{Key}
use Rattle.npy.specs.declared.header.Key.TheVariants.{Descr, FortranOrder, Shape, Other}
use Rattle.npy.specs.Header.{key_at, first_entry, next_entry, is_same, shape_entry}

-- the derived comparison
pub is_shape : (k : Key) → sameb the_type k Shape ≡ is_same k Shape
is_shape Descr = refl
is_shape FortranOrder = refl
is_shape Shape = refl
is_shape Other = refl

module _ (t : List ℕ) where
  abbrev a : List ℕ
  a = first_entry t

  abbrev b : List ℕ
  b = next_entry a

  abbrev later : Bool → List ℕ
  later second = cond second b (next_entry b)

  not_first : is_same (key_at a) Shape ≡ false → shape_entry t ≡ later (is_same (key_at b) Shape)
  unfolding shape_entry
  not_first e = ap (λ (x : Bool). cond x a (later (is_same (key_at b) Shape))) e

  pub shape_third : is_same (key_at a) Shape ≡ false → is_same (key_at b) Shape ≡ false → shape_entry t ≡ next_entry b
  shape_third n m = not_first n ∙ ap later m
