-- How many voxels the manual lets stand at a coordinate: one; none beyond the border in Constant; both ends at each overlap in Wrap.
use Rattle.std.specs.Prelude.{ℕ, ◌-◌, ◌≡◌, ◌⊎◌, ℤ, pos, ◌≤ℤ◌, ◌<ℤ◌}
use Rattle.border.specs.declared.BorderMode.{BorderMode}
use Rattle.border.specs.declared.BorderMode.TheVariants.{Constant, Mirror, Nearest, Reflect, Wrap, Replicate}
use Rattle.border.specs.Manual.{Apart, Stands}

-- exactly one voxel
pub record One (mode : BorderMode) (L : ℕ) (n : ℤ) : Type 0 where
  pub i : ℕ
  pub stands : Stands mode L n i
  pub only : (j : ℕ) → Stands mode L n j → j ≡ i

-- no voxel
abbrev pub None : BorderMode → ℕ → ℤ → Type 0
None mode L n = (i : ℕ) → Stands mode L n i → ⊥

-- the first voxel and the last, and no other
pub record Ends (mode : BorderMode) (L : ℕ) (n : ℤ) : Type 0 where
  pub first : Stands mode L n 0
  pub last : Stands mode L n (L - 1)
  pub only : (j : ℕ) → Stands mode L n j → (j ≡ 0) ⊎ (j ≡ L - 1)

abbrev pub Once : BorderMode → ℕ → ℤ → Type 0
Once (Constant fill) L n = ((n <ℤ pos 0) ⊎ (pos L ≤ℤ n) → None (Constant fill) L n) × (pos 0 ≤ℤ n → n <ℤ pos L → One (Constant fill) L n)
Once Mirror L n = One Mirror L n
Once Nearest L n = One Nearest L n
Once Reflect L n = One Reflect L n
Once Wrap L n = (Apart (L - 1) n (pos 0) → Ends Wrap L n) × ((Apart (L - 1) n (pos 0) → ⊥) → One Wrap L n)
Once Replicate L n = One Replicate L n
