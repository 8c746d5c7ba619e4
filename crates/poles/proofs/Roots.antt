-- "Each is proved within 2^-40 of a root": every line of the table passes the test of signs.
use mathlib.Core.Bool.{Bool, true, false, ◌&&◌}
use mathlib.Core.Logic.{⊎_elim}
use mathlib.Core.List.Memᴰ
use mathlib.Core.List.{List, [], ◌∷◌, Memᴰ}
use lib.Dec.{T}
use lib.Ieee.{of_bits}
use Rattle.poles.specs.Poles.{PoleLine, pole_table}
use Rattle.poles.specs.Roots.{near_root}

abbrev all_near : List PoleLine → Bool
all_near [] = true
all_near (l ∷ ls) = near_root l && all_near ls

-- the one test, computed over the whole table
table_near : T (all_near pole_table)
unfolding pole_table near_root of_bits
table_near = tt

both : (a b : Bool) → T (a && b) → T a × T b
both true b h = (tt, h)
both false b h = absurd h

each : (ls : List PoleLine) (l : PoleLine) → T (all_near ls) → Memᴰ l ls → T (near_root l)
each [] l t m = absurd (Memᴰ.not-nil m)
each (x ∷ ls) l t m = ⊎_elim (λ e. rw e (both (near_root x) (all_near ls) t).0) (λ k. each ls l (both (near_root x) (all_near ls) t).1 k) (Memᴰ.cases_cons m)

pub poles_near_roots : (l : PoleLine) → Memᴰ l pole_table → T (near_root l)
poles_near_roots l m = each pole_table l table_near m
