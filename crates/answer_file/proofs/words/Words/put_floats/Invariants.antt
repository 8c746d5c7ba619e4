-- `answer_file::words::Words::put_floats` meets its contract: the places before k hold their numbers.
use Rattle.std.proofs.Common.{◌≡◌, Some, slice_get, slice_index, ℕ, ◌<◌}
use Rattle.answer_file.specs.Numbers.{float_of}
use Rattle.answer_file.proofs.words.Words.put_floats.Given as goal

abbrev pub invariant-loop-k : goal.invariant-loop-k
invariant-loop-k l = (j : ℕ) → j < l.k → slice_get l.places j ≡ Some (float_of (slice_index l.self.0.now j))
