-- "0: computed from input voxels. 1: dropped, Constant. 2: dropped, any other mode." #103: "New code 3: kept on all axes, and on some axis a neighbour with a nonzero weight lay outside the unpadded axis before its own fold."
use Rattle.std.specs.Prelude.{ℕ, ◌+◌, ◌≤◌, ◌≡◌, ◌↔◌, ◌⊎◌, true, cond, List, [], ◌∷◌, eqb, get_or, Float}
use Rattle.exact.specs.Rounded.{num}
use Rattle.border.specs.declared.BorderMode.TheVariants.{Constant}
use Rattle.axis.specs.declared.coordinate.Axis.{Axis}
use Rattle.axis.specs.Coordinate.{pad_of}
use Rattle.axis.specs.Weights.{order_on}
use Rattle.axis.specs.Folded.{AllInside, SomeOutside}
use Rattle.coverage.specs.Coverage.{kept_at}
use Rattle.request.specs.declared.Axes.{Axes}
use Rattle.request.specs.declared.Request.{Request}

-- ---- an axis that was `length` voxels long before its pad, at output index i
abbrev pub Keeps : Request → ℕ → Axis → ℕ → Type 0
Keeps r length a i = kept_at r.mode a i ≡ true

-- its pad, and the order that it is read at
abbrev pub pad_on : Request → ℕ → ℕ
pad_on r length = pad_of r.mode r.prefilter r.order length

abbrev read_at : Request → Axis → ℕ
read_at r a = order_on a.len r.order

-- every neighbour with a nonzero weight lies inside the unpadded axis
abbrev pub FromInside : Request → ℕ → Axis → ℕ → Type 0
FromInside r length a i = AllInside (read_at r a) r.mode length (pad_on r length) a i

-- some neighbour with a nonzero weight lies outside
abbrev pub FromOutside : Request → ℕ → Axis → ℕ → Type 0
FromOutside r length a i = SomeOutside (read_at r a) r.mode length (pad_on r length) a i

-- so on each axis, at the voxel i, j, k; and so on some axis
abbrev pub Each : (Request → ℕ → Axis → ℕ → Type 0) → Request → Axes → ℕ → ℕ → ℕ → Type 0
Each P r a i j k = P r (get_or r.dims 0 0) a.x i × P r (get_or r.dims 1 0) a.y j × P r (get_or r.dims 2 0) a.z k

abbrev pub Some : (Request → ℕ → Axis → ℕ → Type 0) → Request → Axes → ℕ → ℕ → ℕ → Type 0
Some P r a i j k = P r (get_or r.dims 0 0) a.x i ⊎ P r (get_or r.dims 1 0) a.y j ⊎ P r (get_or r.dims 2 0) a.z k

-- ---- what the code of the voxel i, j, k says of its axes, its mode and its value
pub record Means (r : Request) (a : Axes) (i j k : ℕ) (code : ℕ) (value : Float) : Type 0 where
  pub upto : code ≤ 3
  pub computed : (code ≡ 0) ↔ (Each Keeps r a i j k × Each FromInside r a i j k)
  pub folded : (code ≡ 3) ↔ (Each Keeps r a i j k × Some FromOutside r a i j k)
  pub filled : code ≡ 1 → (r.mode ≡ Constant value)
  pub defaulted : code ≡ 2 → ((fill : Float) → r.mode ≡ Constant fill → ⊥) × (value ≡ num 0)

-- how many of the codes are this one
unfoldable pub bearing : ℕ → List ℕ → ℕ
bearing code [] = 0
bearing code (c ∷ cs) = cond (eqb c code) 1 0 + bearing code cs
