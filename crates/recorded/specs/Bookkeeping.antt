-- How many places the programs' buffers have: of the input, of output and coverage, of work.
use Rattle.std.specs.Prelude.{ℕ}

abbrev pub input_room : ℕ
input_room = 1024

abbrev pub output_room : ℕ
output_room = 4096

abbrev pub work_room : ℕ
work_room = 20480
