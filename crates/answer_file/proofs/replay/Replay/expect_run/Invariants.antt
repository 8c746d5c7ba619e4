-- `answer_file::replay::Replay::expect_run` counts each number.
use Rattle.std.proofs.Common.{◌≡◌, ◌+◌, ◌%◌, ◌^◌}
use Rattle.answer_file.proofs.replay.Replay.expect_run.Given as goal

abbrev pub invariant-loop-x : goal.invariant-loop-x
invariant-loop-x l = l.self.compared ≡ (l.initial.self.compared + l.x-index) % 2 ^ 64
