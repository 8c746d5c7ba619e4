-- The pad, stretch by stretch: padded stretch j of W places copies stretch `clamped n j`, of w places, in the way `inner`. A plane is so made of rows, and a volume of planes.
use Prim.Native.Nat.{ℕ, ◌+◌, ◌*◌, ◌-◌, ◌/◌, ◌%◌, ◌≤◌, ◌<◌}
use mathlib.Core.Path.{◌≡◌, ap, ◌∙◌, subst}
use mathlib.Core.List.{List, ◌++◌}
use native.Mathlib.Omega.{arith}
use native.Mathlib.Nat.{add-mul, mul_assoc, min-le_right}
use borrow.Rule.Slice.PartMut.{same_len_mid}
use lib.Arith.{digits_lt, digits_div, digits_mod}
use lib.ListN.{length, get_or, take, drop}
use lib.Ieee.{Float, nan}
use Rattle.limits.specs.Limits.{edge_of, wide_of}
use Rattle.lists.specs.Bookkeeping.{Filled}
use Rattle.lists.proofs.Tabulated.{get_d_tabulate, is_tabulate}
use Rattle.lists.proofs.Stretches.{next, splice, in_part}
use Rattle.lane.specs.Lane.{at}
use Rattle.prefilter.specs.Volume.{count_of}
use Rattle.prefilter.proofs.Blocks.{lent}
use Rattle.edge.specs.Edge.{clamped, padded_dims, padded}
use Rattle.edge.specs.Bookkeeping.{padded_row, padded_plane}

pub clamped_within : (n k : ℕ) → 1 ≤ n → clamped n k < n
clamped_within n k h = omega (arith, min-le_right (k - edge_of n) (n - 1))

-- what place m of the padded whole copies
abbrev pub copies : (n w W : ℕ) → (ℕ → ℕ) → List Float → ℕ → Float
copies n w W inner xs m = at xs (clamped n (m / W) * w + inner (m % W))

-- the first j padded stretches of `to` are written
pub record Copied (n w W : ℕ) (inner : ℕ → ℕ) (xs : List Float) (long j : ℕ) (to : List Float) : Type 0 where
  pub same : length to ≡ long
  pub filled : Filled (copies n w W inner xs) nan to (j * W)

module _ (n w W : ℕ) (inner : ℕ → ℕ) (xs : List Float) where
  module _ (bound : (m : ℕ) → m < W → inner m < w) where
    -- the stretch that was lent is as the whole says
    copied : (ys : List Float) (j s : ℕ) → s ≡ clamped n j → Filled (λ (m : ℕ). at (take (s * w + w - s * w) (drop (s * w) xs)) (inner m)) nan ys W → Filled (λ (m : ℕ). copies n w W inner xs (j * W + m)) nan ys W
    copied ys j s e q m h =
        let within : inner m < s * w + w - s * w = omega (arith, bound m h) in
        q m h ∙ in_part nan xs (s * w) (s * w + w - s * w) (inner m) within ∙ rw (e, digits_div j h, digits_mod j h)

    pub next_copied :
        (to ys zs : List Float) (long j s : ℕ) → Copied n w W inner xs long j to → j * W + W ≤ long → s ≡ clamped n j →
        length ys ≡ length (take (j * W + W - j * W) (drop (j * W) to)) → ys ≡ zs → Filled (λ (m : ℕ). at (take (s * w + w - s * w) (drop (s * w) xs)) (inner m)) nan zs W →
        Copied n w W inner xs long (j + 1) (take (j * W) to ++ (ys ++ drop (j * W + W - j * W) (drop (j * W) to)))
    next_copied to ys zs long j s before fits e kept is q =
        let p : length ys ≡ W = kept ∙ lent to (j * W) W (omega (arith, before.same)) in
        let after = drop (j * W + W - j * W) (drop (j * W) to) in
        let f = copies n w W inner xs in
        let new : Filled (λ (m : ℕ). f (j * W + m)) nan ys (length ys) = rw p (copied ys j s e (rw is q)) in
        let end : j * W + length ys ≡ (j + 1) * W = omega (arith, next j W) in
        record {
          same = same_len_mid (j * W) (j * W + W - j * W) to ys kept ∙ before.same;
          filled = subst (λ (z : ℕ). Filled f nan (take (j * W) to ++ (ys ++ after)) z) end (splice f nan to ys after (j * W) (omega (arith, before.same)) before.filled new);
        }

-- ---- rows
pub at_row : (row : ℕ) {wide : ℕ} → wide ≡ wide_of row → (xs : List Float) → length xs ≡ row → Filled (λ (m : ℕ). at xs (clamped row m)) nan (padded_row xs) wide
unfolding padded_row
at_row row w xs e m h = get_d_tabulate (wide_of (length xs)) _ nan m (rw e (rw w at h)) ∙ rw e

pub is_row : (xs to : List Float) → length to ≡ wide_of (length xs) → Filled (λ (m : ℕ). at xs (clamped (length xs) m)) nan to (wide_of (length xs)) → to ≡ padded_row xs
unfolding padded_row
is_row xs to e h = is_tabulate _ nan to _ e h

-- ---- planes: the place in a plane that place m of the padded plane copies
abbrev pub in_plane : ℕ → ℕ → ℕ → ℕ
in_plane rows row m = clamped rows (m / wide_of row) * row + clamped row (m % wide_of row)

pub in-plane : (rows row m : ℕ) → 1 ≤ rows → 1 ≤ row → in_plane rows row m < rows * row
in-plane rows row m h l = digits_lt (clamped_within rows _ h) (clamped_within row _ l)

pub at_plane : (rows row : ℕ) {wide : ℕ} → wide ≡ wide_of rows * wide_of row → (xs : List Float) → Filled (λ (m : ℕ). at xs (in_plane rows row m)) nan (padded_plane rows row xs) wide
unfolding padded_plane
at_plane rows row w xs m h = get_d_tabulate (wide_of rows * wide_of row) _ nan m (rw w at h)

pub is_plane : (rows row : ℕ) (xs to : List Float) → length to ≡ wide_of rows * wide_of row → Filled (copies rows row (wide_of row) (clamped row) xs) nan to (wide_of rows * wide_of row) → to ≡ padded_plane rows row xs
unfolding padded_plane
is_plane rows row xs to e h = is_tabulate _ nan to _ e h

-- ---- the volume
abbrev pub plane_of : List ℕ → ℕ
plane_of d = get_or d 1 0 * get_or d 2 0

abbrev pub wide_plane_of : List ℕ → ℕ
wide_plane_of d = wide_of (get_or d 1 0) * wide_of (get_or d 2 0)

regrouped : (s d₁ d₂ a b : ℕ) → s * (d₁ * d₂) + (a * d₂ + b) ≡ (s * d₁ + a) * d₂ + b
regrouped s d₁ d₂ a b = omega (arith, add-mul (s * d₁) a d₂, mul_assoc s d₁ d₂)

pub is_padded : (d : List ℕ) (xs to : List Float) → length to ≡ count_of (padded_dims d) → Filled (copies (get_or d 0 0) (plane_of d) (wide_plane_of d) (in_plane (get_or d 1 0) (get_or d 2 0)) xs) nan to (wide_of (get_or d 0 0) * wide_plane_of d) → to ≡ padded d xs
unfolding padded
is_padded d xs to e h = is_tabulate _ nan to _ e (λ m l. h m l ∙ ap (λ (i : ℕ). at xs i) (regrouped _ (get_or d 1 0) (get_or d 2 0) _ _))
