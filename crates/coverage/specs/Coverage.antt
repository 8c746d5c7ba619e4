-- "Coverage codes. 0: computed from input voxels. 1: dropped, Constant. 2: dropped, any other mode. The counts say how many voxels bear each code and sum to the output count. The running counts are handed back with each new code added." #103: "New code 3: kept on all axes, and on some axis a neighbour with a nonzero weight lay outside the unpadded axis before its own fold." "The counts become four everywhere, refusals included, and the sum rule covers four."
use Rattle.std.specs.Prelude.{ℕ, ◌+◌, ◌*◌, ◌/◌, ◌%◌, Bool, ◌&&◌, ◌||◌, cond, List, [], ◌∷◌, eqb, Float}
use Rattle.exact.specs.Rounded.{num}
use Rattle.lists.specs.Tabulate.{tabulate}
use Rattle.border.specs.declared.BorderMode.{BorderMode}
use Rattle.border.specs.declared.BorderMode.TheVariants.{Constant, Mirror, Nearest, Reflect, Wrap, Replicate}
use Rattle.axis.specs.declared.coordinate.Axis.{Axis}
use Rattle.axis.specs.Coordinate.{settled, kept}
use Rattle.axis.specs.Folded.{folded_at}
use Rattle.coverage.specs.declared.codes.Code.{Code}
use Rattle.coverage.specs.declared.codes.Code.TheVariants.{Computed, Filled, Defaulted, Folded}
use Rattle.coverage.specs.declared.counts.Counts.{Counts}

-- a code as a number
abbrev pub number_of_code : Code → ℕ
number_of_code Computed = 0
number_of_code Filled = 1
number_of_code Defaulted = 2
number_of_code Folded = 3

-- what a voxel with a dropped axis bears: its code, and "the fill in Constant, else 0.0"
abbrev pub dropped : BorderMode → Code
dropped (Constant fill) = Filled
dropped Mirror = Defaulted
dropped Nearest = Defaulted
dropped Reflect = Defaulted
dropped Wrap = Defaulted
dropped Replicate = Defaulted

abbrev pub drop_code : BorderMode → ℕ
drop_code mode = number_of_code (dropped mode)

abbrev pub drop_value : BorderMode → Float
drop_value (Constant fill) = fill
drop_value Mirror = num 0
drop_value Nearest = num 0
drop_value Reflect = num 0
drop_value Wrap = num 0
drop_value Replicate = num 0

-- whether an axis keeps an output index
unfoldable pub kept_at : BorderMode → Axis → ℕ → Bool
unfolding settled
kept_at mode a i = kept (settled mode a i)

-- kept on all axes or not, and folded on some axis or not
abbrev pub code_by : BorderMode → Bool → Bool → ℕ
code_by mode all some = cond all (cond some 3 0) (drop_code mode)

-- the voxel x, y, z: its own code, which its request alone gives it
unfoldable pub own_code : ℕ → BorderMode → Axis → Axis → Axis → ℕ → ℕ → ℕ → ℕ
unfolding kept_at folded_at
own_code order mode xa ya za x y z = code_by mode (kept_at mode xa x && kept_at mode ya y && kept_at mode za z) (folded_at order mode xa x || folded_at order mode ya y || folded_at order mode za z)

-- place m of a volume whose planes have `plane` places and whose rows have `row`
abbrev pub x_of : ℕ → ℕ → ℕ
x_of plane m = m / plane

abbrev pub y_of : ℕ → ℕ → ℕ → ℕ
y_of plane row m = m % plane / row

abbrev pub z_of : ℕ → ℕ → ℕ → ℕ
z_of plane row m = m % plane % row

-- of every voxel
unfoldable pub own_codes : ℕ → BorderMode → Axis → Axis → Axis → List ℕ
unfolding own_code tabulate
own_codes order mode xa ya za =
    let row = za.out in
    let plane = ya.out * row in
    tabulate (xa.out * plane) (λ m. own_code order mode xa ya za (x_of plane m) (y_of plane row m) (z_of plane row m))

-- ---- counts
abbrev pub none : Counts
none = record { computed = 0; filled = 0; defaulted = 0; folded = 0 }

unfoldable pub with_code : Counts → ℕ → Counts
with_code c code =
    cond (eqb code 0) (record { computed = c.computed + 1; filled = c.filled; defaulted = c.defaulted; folded = c.folded })
    (cond (eqb code 1) (record { computed = c.computed; filled = c.filled + 1; defaulted = c.defaulted; folded = c.folded })
    (cond (eqb code 2) (record { computed = c.computed; filled = c.filled; defaulted = c.defaulted + 1; folded = c.folded })
    (record { computed = c.computed; filled = c.filled; defaulted = c.defaulted; folded = c.folded + 1 })))

unfoldable pub counts_from : Counts → List ℕ → Counts
unfolding with_code
counts_from c [] = c
counts_from c (code ∷ codes) = counts_from (with_code c code) codes

unfoldable pub counts_of : List ℕ → Counts
unfolding counts_from
counts_of codes = counts_from none codes

abbrev pub total : Counts → ℕ
total c = c.computed + c.filled + c.defaulted + c.folded
