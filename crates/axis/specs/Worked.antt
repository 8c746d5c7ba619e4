-- "Lines marked P are proved together, one statement over one table": document 01's worked folds at L = 4 and output lengths, as one table, and the test of a line.
use Rattle.std.specs.Prelude.{ℕ, Bool, List, [], ◌∷◌, ◌++◌, map, ◌==◌, Float}
use Rattle.exact.specs.Rounded.{half}
use Rattle.border.specs.Worked.{FoldLine, fold_lines, folds_right}
use Rattle.axis.specs.Length.{output_length}

pub data Line : Type 0 where
  folds : FoldLine → Line
  -- a length and a factor, and the output length
  yields : ℕ → Float → ℕ → Line

unfoldable pub table : List Line
unfolding fold_lines
table = map folds fold_lines ++ (yields 3 half 2 ∷ yields 5 half 2 ∷ yields 7 half 4 ∷ [])

unfoldable pub right : Line → Bool
unfolding folds_right output_length
right (folds l) = folds_right l
right (yields length factor out) = output_length length factor == out
