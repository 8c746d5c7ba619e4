-- Document 01's worked folds come out when the definition is computed.
use lib.Dec.{T}
use lib.Ieee.{of_int, neg, add, sub, mul, div, lt, le, eq}
use Rattle.exact.specs.Floor.{floor_f}
use Rattle.border.specs.Fold.{fold, fold_constant, fold_mirror, fold_nearest, fold_reflect, fold_wrap}
use Rattle.lists.specs.Every.{every}
use Rattle.border.specs.Worked.{fold_lines, folds_right}

pub folds-right : T (every folds_right fold_lines)
unfolding fold_lines folds_right fold fold_constant fold_mirror fold_nearest fold_reflect fold_wrap floor_f of_int neg add sub mul div lt le eq
folds-right = tt
