-- The counts of a whole shift: "code 0 where it lies inside, 1 where not", so as many 0s as voxels stay inside.
use Rattle.std.specs.Prelude.{ℕ, ◌+◌, ◌-◌, ◌*◌, ◌≡◌, List, ℤ, nat_abs, get_or}
use Rattle.promises.specs.Marks.{bearing}

-- how many indices of an axis stay inside it when they move by z
abbrev pub stay : ℕ → ℤ → ℕ
stay length z = length - nat_abs z

-- s i is the shift of axis i
pub record Stays (d : List ℕ) (s : ℕ → ℤ) (codes : List ℕ) : Type 0 where
  pub computed : bearing 0 codes ≡ stay (get_or d 0 0) (s 0) * (stay (get_or d 1 0) (s 1) * stay (get_or d 2 0) (s 2))
  pub rest : bearing 0 codes + bearing 1 codes ≡ get_or d 0 0 * (get_or d 1 0 * get_or d 2 0)
  pub none : (bearing 2 codes ≡ 0) × (bearing 3 codes ≡ 0)
