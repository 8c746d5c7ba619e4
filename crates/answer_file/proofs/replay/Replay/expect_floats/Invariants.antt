-- `answer_file::replay::Replay::expect_floats` goes on by a word for each number.
use Rattle.std.proofs.Common.{◌≡◌, ◌+◌, ◌%◌, ◌^◌, drop}
use Rattle.answer_file.proofs.replay.Replay.expect_floats.Given as goal

abbrev pub invariant-loop-x : goal.invariant-loop-x
invariant-loop-x l =
    (l.self.rest.0.now ≡ drop l.x-index l.initial.self.rest.0.now)
    × (l.self.compared ≡ (l.initial.self.compared + l.x-index) % 2 ^ 64)
