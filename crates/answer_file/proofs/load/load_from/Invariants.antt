-- `answer_file::load::load_from` meets its contract: the place stays within the words.
use Rattle.std.proofs.Common.{◌≤◌, length}
use Rattle.answer_file.proofs.load.load_from.Given as goal

abbrev pub invariant-loop : goal.invariant-loop
invariant-loop g l = l.at ≤ length l.words
