-- The limits that document 01 sets, each by its name; and what document 02 sets apart, an axis of one voxel.
use Rattle.std.specs.Prelude.{ℕ, ◌+◌, ◌*◌, ◌^◌, Bool, cond, eqb}

-- #106: "3 is now length 0 or above 4,096"; 01: "an output axis below 2 or above 4,096"
abbrev pub longest : ℕ
longest = 4096

-- as padded: "the axis length is then 24 longer"
abbrev pub longest_padded : ℕ
longest_padded = longest + 24

-- #106: "volumes with one axis of length 1", a single slice
abbrev pub single : ℕ → Bool
single n = eqb n 1

-- "Nearest in `shift` and `zoom` first pads 12 edge copies on every side"; a single slice is "not padded". How many stand on each side of an axis of n voxels, and its length with them
unfoldable pub edge_of : ℕ → ℕ
edge_of n = cond (single n) 0 12

abbrev pub wide_of : ℕ → ℕ
wide_of n = n + 2 * edge_of n

-- "input count, output count or needed work count exceeds 2^27"
abbrev pub most_places : ℕ
most_places = 2 ^ 27
