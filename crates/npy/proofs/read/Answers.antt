-- `npy::read` meets its contract.
use mathlib.Core.Path.{◌≡◌, sym, ap, ◌∙◌}
use mathlib.Core.Bool.{true}
use Prim.Native.Nat.{ℕ, ◌*◌}
use lib.ListN.{length}
use Rattle.prefilter.specs.Volume.{count_of}
use Rattle.refusal.specs.Refusals.{first}
use Rattle.words.specs.Words.{words_of}
use Rattle.refusal.proofs.Firsts.{passed_up}
use Rattle.npy.specs.File.{is_npy, dims_of, voxels_of}
use Rattle.npy.specs.Call.{read_checks, read_call}
use Rattle.npy.proofs.Files.{npy_has}
use Rattle.npy.proofs.Verdicts.{read_clear, refusing, passing}
use Rattle.npy.proofs.read.Goals.{In_ok-read_verdict}
use Rattle.npy.proofs.read.Goals as goal
use Rattle.std.specs.Prelude.{Ok}

passed : (c : In_ok-read_verdict) → let a = c.args in first (read_checks a.file.now (length a.volume.now)) ≡ Ok tt
passed c = sym c.read_verdict.ensures ∙ c.in_ok-read_verdict.was

clear : (c : In_ok-read_verdict) → let a = c.args in (is_npy a.file.now ≡ true) × (length a.volume.now ≡ count_of (dims_of a.file.now))
clear c = let a = c.args in read_clear a.file.now (length a.volume.now) (passed c)

pub data_of-requires : goal.data_of-requires
data_of-requires c = (npy_has c.args.file.now (clear (goal.at.data_of-requires c).In_ok-read_verdict).0).0

pub read_words-requires : goal.read_words-requires
read_words-requires c = let a = c.args in let h = clear (goal.at.read_words-requires c).In_ok-read_verdict in ap length c.data_of.ensures ∙ (npy_has a.file.now h.0).1 ∙ ap (λ (n : ℕ). n * 8) (sym h.1)

pub returns : goal.returns
unfolding read_call voxels_of
returns c =
    let a = c.args in
    passing a.volume.now (passed (goal.at.returns c).In_ok-read_verdict) (c.read_words.ensures ∙ (λ i. words_of 8 ((clear (goal.at.returns c).In_ok-read_verdict).1 i) (c.data_of.ensures i)))

pub returns-in_err-read_verdict : goal.returns-in_err-read_verdict
unfolding read_call
returns-in_err-read_verdict c = let a = c.args in rw (passed_up _ c.from_residual.ensures.1) (refusing (voxels_of a.file.now) a.volume.now (sym c.read_verdict.ensures ∙ c.in_err-read_verdict.was))
