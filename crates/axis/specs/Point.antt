-- "One record per output index of an axis carries up to six weights and six neighbours." With it stands its mark.
use Rattle.std.specs.Prelude.{ℕ, Bool, true, false, cond, ◌&&◌, List, ◌∷◌, replicate, ◌==◌, nat_le, Float}
use Rattle.exact.specs.Rounded.{num}
use Rattle.lists.specs.Some.{some_below}
use Rattle.lists.specs.Tabulate.{tabulate}
use Rattle.border.specs.declared.BorderMode.{BorderMode}
use Rattle.axis.specs.declared.coordinate.Axis.{Axis}
use Rattle.axis.specs.declared.point.Mark.{Mark}
use Rattle.axis.specs.declared.point.Mark.TheVariants.{Reads, Dropped, Beside}
use Rattle.axis.specs.declared.point.Point.{Point}
use Rattle.axis.specs.Coordinate.{settled, kept}
use Rattle.axis.specs.Weights.{order_on, build_splines}
use Rattle.axis.specs.Neighbours.{first_neighbour, outside, neighbour_index}

-- a record that reads nothing: Dropped, or Beside, which is kept at order 0 but outside, where refusal 9 stands
abbrev pub empty : Mark → Point
empty mark = record { mark = mark; weight = replicate 6 (num 0); at = replicate 6 0 }

-- whether a record with this mark is one of a kept index
abbrev pub is_kept : Mark → Bool
is_kept Reads = true
is_kept Dropped = false
is_kept Beside = true

-- the order + 1 neighbours, and 0 in the other of six places
unfoldable pub neighbours : BorderMode → ℕ → ℕ → Float → List ℕ
unfolding neighbour_index tabulate
neighbours mode order len first = tabulate 6 (λ k. cond (nat_le k order) (neighbour_index mode (outside order len first) len first k) 0)

-- the record of a kept coordinate, at the order that its axis is read at
unfoldable pub kept_point : ℕ → BorderMode → ℕ → Float → Point
unfolding build_splines first_neighbour neighbours
kept_point order mode len to =
    let first = first_neighbour order to in
    cond (order == 0 && outside order len first) (empty Beside) (record { mark = Reads; weight = build_splines order to; at = neighbours mode order len first })

unfoldable pub point_at : ℕ → BorderMode → Axis → ℕ → Point
unfolding settled kept_point
point_at order mode a i = cond (kept (settled mode a i)) (kept_point (order_on a.len order) mode a.len (settled mode a i)) (empty Dropped)

-- what that is on an axis of length 1, where a request is admitted (#106): "its one voxel with a single weight of exactly 1"
abbrev pub one_point : Point
one_point = record { mark = Reads; weight = num 1 ∷ replicate 5 (num 0); at = replicate 6 0 }

-- "at order 0 some axis has a coordinate that is kept but rounds to an index outside that axis": this output index has
unfoldable pub beside_at : BorderMode → Axis → ℕ → Bool
unfolding settled first_neighbour
beside_at mode a i = kept (settled mode a i) && outside 0 a.len (first_neighbour 0 (settled mode a i))

-- and some output index of the axis has
unfoldable pub some_beside : BorderMode → Axis → Bool
unfolding some_below beside_at
some_beside mode a = some_below (beside_at mode a) a.out
