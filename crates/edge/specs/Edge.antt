-- "Nearest in `shift` and `zoom` first pads 12 edge copies on every side." So does Replicate (#104: "the same prefilter and pad as Nearest"). A single slice is "not padded" (#106). The padded volume has at each place the voxel at the clamped index.
use Rattle.std.specs.Prelude.{ℕ, ◌+◌, ◌-◌, ◌*◌, ◌/◌, ◌%◌, min, List, [], ◌∷◌, get_or, Float}
use Rattle.limits.specs.Limits.{edge_of, wide_of}
use Rattle.lists.specs.Tabulate.{tabulate}
use Rattle.lane.specs.Lane.{at}
use Rattle.prefilter.specs.Volume.{count_of}

-- the index that padded index k copies, on an axis of n voxels: k less the copies before the first voxel, but from 0 to n - 1
abbrev pub clamped : ℕ → ℕ → ℕ
clamped n k = min (k - edge_of n) (n - 1)

abbrev pub padded_dims : List ℕ → List ℕ
padded_dims d = wide_of (get_or d 0 0) ∷ wide_of (get_or d 1 0) ∷ wide_of (get_or d 2 0) ∷ []

-- the place in the input that place m of the padded volume copies
abbrev pub source : List ℕ → ℕ → ℕ
source d m =
    let row = wide_of (get_or d 2 0) in
    let plane = wide_of (get_or d 1 0) * row in
    (clamped (get_or d 0 0) (m / plane) * get_or d 1 0 + clamped (get_or d 1 0) (m % plane / row)) * get_or d 2 0 + clamped (get_or d 2 0) (m % plane % row)

unfoldable pub padded : List ℕ → List Float → List Float
unfolding tabulate
padded d xs = tabulate (count_of (padded_dims d)) (λ m. at xs (source d m))
