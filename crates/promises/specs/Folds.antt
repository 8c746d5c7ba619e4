-- #103 at whole shifts: "in Constant whole shifts give no code 3 at order 0 or 1" is in `Moved`, where a code is 0 or 1. In the other modes order 1 gives code 3 in Nearest alone, and there exactly where a coordinate lies behind its axis.
use Rattle.std.specs.Prelude.{ℕ, ◌≡◌, ◌⊎◌, T, ℤ, pos, ◌-ℤ◌, get_or}
use Rattle.std.specs.Int.Signed.{le_z}
use Rattle.border.specs.declared.BorderMode.TheVariants.{Nearest}
use Rattle.request.specs.declared.Request.{Request}

-- 0 or above; the length or above
abbrev pub NotBefore : ℤ → Type 0
NotBefore z = T (le_z (pos 0) z)

abbrev pub Behind : ℕ → ℤ → Type 0
Behind length z = T (le_z (pos length) z)

-- the voxel i, j, k after the shifts s: no axis drops it, and on some axis it lies behind
pub record FoldedBehind (r : Request) (s : ℕ → ℤ) (i j k : ℕ) : Type 0 where
  pub nearest : r.mode ≡ Nearest
  pub kept : NotBefore (pos i -ℤ s 0) × NotBefore (pos j -ℤ s 1) × NotBefore (pos k -ℤ s 2)
  pub behind : Behind (get_or r.dims 0 0) (pos i -ℤ s 0) ⊎ Behind (get_or r.dims 1 0) (pos j -ℤ s 1) ⊎ Behind (get_or r.dims 2 0) (pos k -ℤ s 2)
