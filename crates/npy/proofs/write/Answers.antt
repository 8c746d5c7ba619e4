-- `npy::write` meets its contract.
use Prim.Native.Nat.{◌-◌}
use native.Mathlib.Omega.{arith}
use mathlib.Core.Path.{◌≡◌, sym, ◌∙◌}
use mathlib.Core.List.{[], ◌++◌, append-nil}
use lib.ListN.{length, drop, length-take, length-drop, drop_of_length-le}
use borrow.Rule.Slice.PartMut.{post_of}
use Rattle.refusal.specs.Refusals.{first}
use Rattle.words.specs.Words.{all_bytes}
use Rattle.refusal.proofs.Firsts.{passed_up}
use Rattle.npy.specs.File.{written}
use Rattle.npy.specs.Call.{write_checks, write_call}
use Rattle.npy.proofs.Verdicts.{Writes, write_clear, refusing, passing}
use Rattle.npy.proofs.write.Goals.{In_ok-write_verdict}
use Rattle.npy.proofs.write.Goals as goal
use Rattle.std.specs.Prelude.{Ok}

passed : (c : In_ok-write_verdict) → let a = c.args in first (write_checks a.d (length a.volume.now) (length a.bytes.now)) ≡ Ok tt
passed c = sym c.write_verdict.ensures ∙ c.in_ok-write_verdict.was

writes : (c : In_ok-write_verdict) → let a = c.args in Writes a.d (length a.volume.now) (length a.bytes.now)
writes c = let a = c.args in write_clear a.d (length a.volume.now) (length a.bytes.now) (passed c)

pub put_header-requires : goal.put_header-requires
put_header-requires c = let w = writes (goal.at.put_header-requires c).In_ok-write_verdict in omega (arith, w.size)

pub slice_bounds-write_words-count : goal.slice_bounds-write_words-count
slice_bounds-write_words-count c = let w = writes (goal.at.slice_bounds-write_words-count c).In_ok-write_verdict in omega (arith, w.size, c.put_header.auto.bytes)

pub slice_bounds-write_words-start : goal.slice_bounds-write_words-start
slice_bounds-write_words-start c = let w = writes (goal.at.slice_bounds-write_words-start c).In_ok-write_verdict in omega (arith, w.size, c.put_header.auto.bytes)

pub write_words-requires : goal.write_words-requires
write_words-requires c =
    let w = writes (goal.at.write_words-requires c).In_ok-write_verdict in
    simp (length-take, length-drop) (omega (arith, w.size, w.voxels, c.put_header.auto.bytes))

pub returns : goal.returns
unfolding write_call written
returns c =
    let l = c.put_header.new.bytes in
    let a = c.args in
    let none : post_of 128 (length l - 128) l ≡ [] = drop_of_length-le (drop 128 l) {i = length l - 128} (omega (arith, length-drop 128 l)) in
    passing a.bytes.now (passed (goal.at.returns c).In_ok-write_verdict) (λ i. c.put_header.ensures i ++ ((λ j. c.write_words.ensures j ++ none j) ∙ append-nil (all_bytes 8 a.volume.now)) i)

pub returns-in_err-write_verdict : goal.returns-in_err-write_verdict
unfolding write_call
returns-in_err-write_verdict c = let a = c.args in rw (passed_up _ c.from_residual.ensures.1) (refusing (written a.d a.volume.now) a.bytes.now (sym c.write_verdict.ensures ∙ c.in_err-write_verdict.was))
