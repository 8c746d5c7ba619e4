-- What a comparison does to the counts of a replay: one number compared more, and one that differs more
-- unless the two are the same.
use Rattle.std.specs.Prelude.{◌≡◌, ◌+◌, ◌%◌, ◌^◌, Bool, if◌then◌else◌}
use Rattle.answer_file.specs.declared.replay.Replay.{Replay}

abbrev pub Counted : Bool → Replay → Replay → Type 0
Counted same old new = (new.compared ≡ (old.compared + 1) % 2 ^ 64) × (new.differ ≡ (if same then old.differ else (old.differ + 1) % 2 ^ 64))
