-- From file to file: a file is read, resampled by `shift` or `zoom`, and written; "demands 2 and 3 then hold from file to file". What that says of the three calls.
use Rattle.std.specs.Prelude.{ℕ, ◌^◌, ◌<◌, ◌≡◌, false, List, map, length, get_or, Float}
use Rattle.std.specs.Float.{binary64}
use Rattle.std.specs.Float.Ieee.{of_bits, nan_bits}
use Rattle.request.specs.declared.Request.{Request}
use Rattle.words.specs.Words.{Below}
use Rattle.npy.specs.File.{dims_of}
use Rattle.npy.specs.Call.{npy_call_of, read_call, write_call}
use Rattle.refusal.specs.Refusals.{number_in}
use Rattle.resample.specs.Call.{Call}
use Rattle.promises.specs.Entries.{Entry, call, output_dims}
use Rattle.std.specs.Prelude.{Ok}

-- reader and writer take voxels as words, their bits; the entries take the same memory as f64
abbrev pub volume_of : List ℕ → List Float
volume_of words = map (of_bits binary64) words

-- no word is a NaN's
abbrev pub NoNans : List ℕ → Type 0
NoNans words = (i : ℕ) → i < length words → nan_bits binary64 (get_or words i 0) ≡ false

-- the words are the bits of the voxels
pub record BitsOf (words : List ℕ) (voxels : List Float) : Type 0 where
  pub below : Below (2 ^ 64) words
  pub same : volume_of words ≡ voxels

-- what the three calls are lent, as it was before
pub record Lent : Type 0 where
  pub volume : List ℕ
  pub output : List Float
  pub coverage : List ℕ
  pub work : List Float
  pub bytes : List ℕ

-- the entry, called on these words, and on what the reader left
abbrev pub call_on : Entry → Request → List ℕ → Lent → Call
call_on e r words lent = call e r (volume_of words) lent.output lent.coverage lent.work

abbrev pub resampled : Entry → Request → List ℕ → Lent → Call
resampled e r file lent = call_on e r (read_call file lent.volume).buffer lent

-- reader and entry succeed; `out` is the bits of the entry's output
pub record Resamples (e : Entry) (r : Request) (file : List ℕ) (lent : Lent) (out : List ℕ) : Type 0 where
  pub read : (read_call file lent.volume).answer ≡ Ok tt
  pub asked : r.dims ≡ dims_of file
  pub done : number_in (resampled e r file lent).answer ≡ 0
  pub bits : BitsOf out (resampled e r file lent).output

-- and the writer: `to` is the file that comes out, `codes` is the entry's coverage
pub record Goes (e : Entry) (r : Request) (from to codes : List ℕ) : Type 0 where
  pub lent : Lent
  pub out : List ℕ
  pub resamples : Resamples e r from lent out
  pub wrote : write_call (output_dims e r) out lent.bytes ≡ npy_call_of (Ok tt) to
  pub marks : (resampled e r from lent).coverage ≡ codes
