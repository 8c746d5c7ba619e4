-- The codes as the code makes them: what each axis says of its output indices, joined for a row, for a plane and for the volume.
use Rattle.std.specs.Prelude.{ℕ, ◌*◌, ◌/◌, ◌%◌, Bool, cond, List, length, get_or}
use Rattle.border.specs.declared.BorderMode.{BorderMode}
use Rattle.axis.specs.declared.coordinate.Axis.{Axis}
use Rattle.axis.specs.Folded.{folded_at}
use Rattle.coverage.specs.declared.codes.Code.{Code}
use Rattle.coverage.specs.declared.codes.Code.TheVariants.{Computed, Filled, Defaulted, Folded}
use Rattle.coverage.specs.Coverage.{number_of_code, dropped, kept_at, x_of}

-- kept or not, and folded or not
abbrev pub code_of : BorderMode → Bool → Bool → Code
code_of mode all some = cond all (cond some Folded Computed) (dropped mode)

-- the code of output index i, by its axis alone
abbrev pub axis_code : ℕ → BorderMode → Axis → ℕ → Code
axis_code order mode a i = code_of mode (kept_at mode a i) (folded_at order mode a i)

-- the code by two axes: dropped by one of them, else folded by one of them
abbrev pub joined : Code → Code → Code
joined Computed d = d
joined Filled d = Filled
joined Defaulted d = Defaulted
joined Folded Computed = Folded
joined Folded Filled = Filled
joined Folded Defaulted = Defaulted
joined Folded Folded = Folded

-- place m of a plane of which axis 0 says `first`
abbrev pub code_in_plane : Code → List Code → List Code → ℕ → ℕ
code_in_plane first ys zs m =
    let row = length zs in
    number_of_code (joined (joined first (get_or ys (m / row) Computed)) (get_or zs (m % row) Computed))

-- place m of the volume
abbrev pub code_by_axes : List Code → List Code → List Code → ℕ → ℕ
code_by_axes xs ys zs m =
    let plane = length ys * length zs in
    code_in_plane (get_or xs (x_of plane m) Computed) ys zs (m % plane)
