-- `answer_file::load::read_full` ends, and counts no more bytes than the buffer has.
use Rattle.std.proofs.Common.{◌-◌, ◌≤◌, length}
use Rattle.answer_file.proofs.load.read_full.Given as goal

abbrev pub invariant-loop-done : goal.invariant-loop-done
invariant-loop-done g l = l.done ≤ length l.buf

abbrev pub decreases-loop-done : goal.decreases-loop-done
decreases-loop-done g l = length l.initial.buf - l.done
