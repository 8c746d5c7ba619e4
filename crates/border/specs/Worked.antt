-- "Fold, L = 4 (P)": document 01's worked folds, as a table, and the test of a line.
use Rattle.std.specs.Prelude.{Bool, List, [], ◌∷◌, Float}
use Rattle.std.specs.Float.Ieee.{neg, eq}
use Rattle.exact.specs.Rounded.{◌⊘◌, num}
use Rattle.border.specs.declared.BorderMode.{BorderMode}
use Rattle.border.specs.declared.BorderMode.TheVariants.{Constant, Mirror, Reflect, Wrap}
use Rattle.border.specs.Fold.{fold}

pub record FoldLine : Type 0 where
  pub mode : BorderMode
  pub from : Float
  pub to : Float

abbrev line : BorderMode → Float → Float → FoldLine
line mode from to = record { mode = mode; from = from; to = to }

unfoldable pub fold_lines : List FoldLine
fold_lines =
    line Mirror (num 4) (num 2)
    ∷ line Mirror (neg (num 4)) (num 2)
    ∷ line Mirror (num 7 ⊘ num 2) (num 7 ⊘ num 2)
    ∷ line Reflect (neg (num 1)) (num 0)
    ∷ line Reflect (neg (num 8)) (num 0)
    ∷ line Reflect (neg (num 16)) (neg (num 1))
    ∷ line Wrap (neg (num 1)) (num 2)
    ∷ line Wrap (num 4) (num 1)
    ∷ line Wrap (neg (num 3)) (num 3)
    ∷ line (Constant (num 0)) (num 4) (neg (num 1))
    ∷ []

-- the fold of the line's coordinate at L = 4 is the number that stands there
unfoldable pub folds_right : FoldLine → Bool
unfolding fold
folds_right l = eq (fold l.mode l.from (num 4)) l.to
