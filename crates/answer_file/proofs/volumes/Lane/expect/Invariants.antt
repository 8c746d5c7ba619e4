-- `answer_file::volumes::Lane::expect` goes on by a word for each voxel.
use Rattle.std.proofs.Common.{◌≡◌, ◌+◌, ◌%◌, ◌^◌, drop}
use Rattle.answer_file.proofs.volumes.Lane.expect.Given as goal

abbrev pub invariant-loop-k : goal.invariant-loop-k
invariant-loop-k l =
    (l.r.rest.0.now ≡ drop l.k l.initial.r.rest.0.now)
    × (l.r.compared ≡ (l.initial.r.compared + l.k) % 2 ^ 64)
