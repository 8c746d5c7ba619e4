-- The SciPy ndimage manual's border rules: which voxel may stand at which whole coordinate. Written from the parameter `mode` of its page on `shift` and from "Interpolation boundary handling" in its tutorial; what stands in quotation marks is its text.
-- "The coordinates of image samples fall on integer sampling locations in the range from 0 to shape[i] - 1": a voxel is its number i below the length L, and a coordinate an integer n.
use Rattle.std.specs.Prelude.{ℕ, ◌-◌, ◌*◌, ◌<◌, ◌≡◌, ◌⊎◌, ℤ, pos, negsuc, neg_ℤ, ◌+ℤ◌, ◌*ℤ◌, ◌≤ℤ◌, ◌<ℤ◌}
use Rattle.border.specs.declared.BorderMode.{BorderMode}
use Rattle.border.specs.declared.BorderMode.TheVariants.{Constant, Mirror, Nearest, Reflect, Wrap, Replicate}

-- n lies a whole number of periods away from m
pub record Apart (period : ℕ) (n m : ℤ) : Type 0 where
  pub times : ℤ
  pub equal : n ≡ m +ℤ pos period *ℤ times

-- voxel i at its own place, and the end voxels beyond it
abbrev pub Replicated : ℕ → ℤ → ℕ → Type 0
Replicated L n i = (n ≡ pos i) ⊎ ((n <ℤ pos 0) × (i ≡ 0)) ⊎ ((pos L ≤ℤ n) × (i ≡ L - 1))

abbrev pub Rule : BorderMode → ℕ → ℤ → ℕ → Type 0
-- 'constant' (k k k k | a b c d | k k k k): "filling all values beyond the edge with the same constant value": no voxel stands there.
Rule (Constant fill) L n i = n ≡ pos i
-- 'mirror' (d c b | a b c d | c b a): "reflecting about the center of the last pixel": voxel i, and its reflection -i about the centre of voxel 0, come again after 2L - 2.
Rule Mirror L n i = Apart (2 * L - 2) n (pos i) ⊎ Apart (2 * L - 2) n (neg_ℤ (pos i))
-- 'nearest' (a a a a | a b c d | d d d d): "replicating the last pixel". Two modes are held to it.
Rule Nearest L n i = Replicated L n i
Rule Replicate L n i = Replicated L n i
-- 'reflect' (d c b a | a b c d | d c b a): "reflecting about the edge of the last pixel": voxel i, and its reflection -1 - i about the outer face of voxel 0, come again after 2L.
Rule Reflect L n i = Apart (2 * L) n (pos i) ⊎ Apart (2 * L) n (negsuc i)
-- 'wrap': "wrapping around to the opposite edge, but in a way such that the last point and initial point exactly overlap. In this case it is not well defined which sample will be chosen at the point of overlap": voxel i comes again after L - 1, and voxels 0 and L - 1 both stand at each overlap.
Rule Wrap L n i = Apart (L - 1) n (pos i)

-- in this mode and length, voxel i may stand at coordinate n
pub record Stands (mode : BorderMode) (L : ℕ) (n : ℤ) (i : ℕ) : Type 0 where
  pub voxel : i < L
  pub rule : Rule mode L n i
