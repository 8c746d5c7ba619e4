-- Document 01's lines marked P come out when the definitions are computed.
use Rattle.std.proofs.Common.{T}
use lib.Ieee.{of_int, round, neg, add, sub, mul, div, lt, le, eq, to_unsigned}
use Rattle.lists.specs.Every.{every}
use Rattle.exact.specs.Floor.{floor_f}
use Rattle.exact.specs.Round.{round_ties_even_f}
use Rattle.border.specs.Fold.{fold, fold_constant, fold_mirror, fold_nearest, fold_reflect, fold_wrap}
use Rattle.border.specs.Worked.{fold_lines, folds_right}
use Rattle.axis.specs.Length.{output_length}
use Rattle.axis.specs.Worked.{table, right}

pub lines_right : T (every right table)
unfolding table right fold_lines folds_right fold fold_constant fold_mirror fold_nearest fold_reflect fold_wrap output_length floor_f round_ties_even_f of_int round neg add sub mul div lt le eq to_unsigned
lines_right = tt
