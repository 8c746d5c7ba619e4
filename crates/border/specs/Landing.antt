-- "Those listed here aside, every whole coordinate in the domain is proved to fold as the manual's rule for that mode says; in Nearest this speaks of the neighbours' clamp." #104: the new mode "is proved equal to the manual's rule at whole coordinates, with no exceptions": nothing is marked and nothing chosen there. What a fold gives at a whole coordinate: a voxel of the manual's, or the case in which it departs, with its value.
use Rattle.std.specs.Prelude.{ℕ, ◌-◌, ◌*◌, ◌≤◌, ◌≡◌, ◌⊎◌, ℤ, pos, negsuc, neg_ℤ, ◌≤ℤ◌, ◌<ℤ◌, Float}
use Rattle.exact.specs.Whole.{Is}
use Rattle.border.specs.declared.BorderMode.{BorderMode}
use Rattle.border.specs.declared.BorderMode.TheVariants.{Constant, Mirror, Nearest, Reflect, Wrap, Replicate}
use Rattle.border.specs.Manual.{Apart, Stands}

-- n is -2kL with k at least 2
pub record FarEven (L : ℕ) (n : ℤ) : Type 0 where
  pub k : ℕ
  pub far : 2 ≤ k
  pub even : n ≡ neg_ℤ (pos (2 * L * k))

-- where the fold gives -1, the mark for outside: beyond the border in Constant, and departure 2 in Reflect
abbrev pub Marked : BorderMode → ℕ → ℤ → Type 0
Marked (Constant fill) L n = (n <ℤ pos 0) ⊎ (pos L ≤ℤ n)
Marked Mirror L n = ⊥
Marked Nearest L n = ⊥
Marked Reflect L n = FarEven L n
Marked Wrap L n = ⊥
Marked Replicate L n = ⊥

-- departure 4: at multiples of L - 1, where the manual allows both ends, Wrap gives the last voxel below 0, the first at L or above, and leaves the ends themselves
pub record Overlap (L : ℕ) (n : ℤ) (r : Float) : Type 0 where
  pub below : n <ℤ pos 0 → Is r (pos (L - 1))
  pub beyond : pos L ≤ℤ n → Is r (pos 0)
  pub inside : pos 0 ≤ℤ n → n <ℤ pos L → Is r n

abbrev pub Chosen : BorderMode → ℕ → ℤ → Float → Type 0
Chosen (Constant fill) L n r = Unit
Chosen Mirror L n r = Unit
Chosen Nearest L n r = Unit
Chosen Reflect L n r = Unit
Chosen Wrap L n r = Apart (L - 1) n (pos 0) → Overlap L n r
Chosen Replicate L n r = Unit

-- r is a voxel that the manual lets stand at n
pub record OnVoxel (mode : BorderMode) (L : ℕ) (n : ℤ) (r : Float) : Type 0 where
  pub i : ℕ
  pub stands : Stands mode L n i
  pub is : Is r (pos i)

pub record Lands (mode : BorderMode) (L : ℕ) (n : ℤ) (r : Float) : Type 0 where
  pub marked : Marked mode L n → Is r (negsuc 0)
  pub follows : (Marked mode L n → ⊥) → OnVoxel mode L n r
  pub chosen : Chosen mode L n r
