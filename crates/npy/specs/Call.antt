-- "Refusals: 10, any other file, bytes missing or left over included, before all of 01's; reader and writer then give 3, 6 and 7 alone." On a refusal the lent buffer holds what it held.
use Rattle.std.specs.Prelude.{ℕ, ◌+◌, ◌*◌, not, ◌||◌, List, [], ◌∷◌, ◌++◌, length}
use Rattle.prefilter.specs.Volume.{count_of}
use Rattle.request.specs.Conditions.{bad_lengths, too_large, wrong}
use Rattle.refusal.specs.declared.Refusal.TheVariants.{NotNpy, Length, Count, Buffer}
use Rattle.refusal.specs.Refusals.{Check, when, first}
use Rattle.npy.specs.File.{is_npy, dims_of, voxels_of, written}
use Rattle.std.specs.Prelude.{Result, Ok, Err, ⊤}
use Rattle.refusal.specs.declared.Refusal.{Refusal}

-- the answer, and what the lent buffer then holds
pub record NpyCall : Type 0 where
  pub answer : Result ⊤ Refusal
  pub buffer : List ℕ

abbrev pub npy_call_of : Result ⊤ Refusal → List ℕ → NpyCall
npy_call_of answer buffer = record { answer = answer; buffer = buffer }

abbrev pub npy_call_by : Result ⊤ Refusal → List ℕ → List ℕ → NpyCall
npy_call_by (Ok tt) made held = npy_call_of (Ok tt) made
npy_call_by (Err why) made held = npy_call_of (Err why) held

-- ---- the checks; `dims`, `volume` and `bytes` are the lengths of these buffers
abbrev pub npy_check : List ℕ → Check
npy_check file = when NotNpy (not (is_npy file))

abbrev pub dims_checks : List ℕ → ℕ → List Check
dims_checks file dims = npy_check file ∷ when Buffer (wrong dims 3) ∷ []

-- 3 and 6, of lengths
abbrev pub length_checks : List ℕ → List Check
length_checks d = when Length (bad_lengths d) ∷ when Count (too_large (count_of d)) ∷ []

abbrev pub read_checks : List ℕ → ℕ → List Check
read_checks file volume = npy_check file ∷ (length_checks (dims_of file) ++ (when Buffer (wrong volume (count_of (dims_of file))) ∷ []))

-- the size of a file of ours: its header has 128 bytes
abbrev pub size_of : List ℕ → ℕ
size_of d = 128 + count_of d * 8

abbrev pub write_checks : List ℕ → ℕ → ℕ → List Check
write_checks d volume bytes = length_checks d ++ (when Buffer (wrong volume (count_of d) || wrong bytes (size_of d)) ∷ [])

-- ---- the four calls
unfoldable pub dims_call : List ℕ → List ℕ → NpyCall
unfolding dims_of
dims_call file dims = npy_call_by (first (dims_checks file (length dims))) (dims_of file) dims

unfoldable pub read_call : List ℕ → List ℕ → NpyCall
unfolding voxels_of
read_call file volume = npy_call_by (first (read_checks file (length volume))) (voxels_of file) volume

unfoldable pub write_call : List ℕ → List ℕ → List ℕ → NpyCall
unfolding written
write_call d volume bytes = npy_call_by (first (write_checks d (length volume) (length bytes))) (written d volume) bytes

-- 0 where the lengths are refused
abbrev pub size_by : Result ⊤ Refusal → List ℕ → ℕ
size_by (Ok tt) d = size_of d
size_by (Err why) d = 0

unfoldable pub size_call : List ℕ → ℕ
size_call d = size_by (first (length_checks d)) d
