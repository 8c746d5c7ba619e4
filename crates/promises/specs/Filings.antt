-- The three calls over files: what is promised of lengths, reader and writer is one statement.
use Rattle.std.specs.Prelude.{ℕ, Bool, false, not, List, [], ◌∷◌, ◌++◌, length}
use Rattle.prefilter.specs.Volume.{count_of}
use Rattle.request.specs.Conditions.{wrong}
use Rattle.refusal.specs.declared.Refusal.TheVariants.{Buffer}
use Rattle.refusal.specs.Refusals.{Check, when}
use Rattle.npy.specs.File.{is_npy, dims_of, voxels_of, written}
use Rattle.npy.specs.Call.{NpyCall, length_checks, write_checks, dims_call, read_call, write_call}

-- of a file and the lent buffer, or of lengths, voxels and the lent bytes
pub data Filing : Type 0 where
  measuring reading : List ℕ → List ℕ → Filing
  writing : List ℕ → List ℕ → List ℕ → Filing

abbrev pub file_call : Filing → NpyCall
file_call (measuring file dims) = dims_call file dims
file_call (reading file volume) = read_call file volume
file_call (writing d volume bytes) = write_call d volume bytes

-- the lent buffer
abbrev pub held : Filing → List ℕ
held (measuring file dims) = dims
held (reading file volume) = volume
held (writing d volume bytes) = bytes

-- what a success leaves in it
abbrev pub made : Filing → List ℕ
made (measuring file dims) = dims_of file
made (reading file volume) = voxels_of file
made (writing d volume bytes) = written d volume

-- "10, any other file, bytes missing or left over included, before all of 01's"
abbrev pub other_file : Filing → Bool
other_file (measuring file dims) = not (is_npy file)
other_file (reading file volume) = not (is_npy file)
other_file (writing d volume bytes) = false

-- "reader and writer then give 3, 6 and 7 alone"
abbrev pub file_checks : Filing → List Check
file_checks (measuring file dims) = when Buffer (wrong (length dims) 3) ∷ []
file_checks (reading file volume) = length_checks (dims_of file) ++ (when Buffer (wrong (length volume) (count_of (dims_of file))) ∷ [])
file_checks (writing d volume bytes) = write_checks d (length volume) (length bytes)
