-- `words::read_words` meets its contract: the first i words are those that the bytes write.
use Prim.Native.Nat.{ℕ, ◌+◌, ◌*◌, ◌/◌, ◌≤◌}
use mathlib.Core.Path.{◌≡◌, sym, ap, ◌∙◌}
use mathlib.Core.List.{List, []}
use native.Mathlib.Omega.{arith}
use lib.ListN.{length, get_or, take, drop}
use lib.Seq.{ext_get_or}
use Rattle.lists.proofs.Stretches.{put, part_length}
use Rattle.words.specs.Words.{word_of, words_of}
use Rattle.words.proofs.Numbers.{length_words, word_there}
use Rattle.words.proofs.Library.{word_read, chunk_there}
use Rattle.words.proofs.read_words.Goals as goal

pub loop-i-preserved : goal.loop-i-preserved
loop-i-preserved c =
    let here = c.loop-i in
    let bytes = c.args.bytes.now in
    let parts = c.as_chunks.result.0.now in
    let part : get_or parts here.i [] ≡ take 8 (drop (here.i * 8) bytes) = ap (λ (l : List (List ℕ)). get_or l here.i []) c.as_chunks.ensures.front ∙ chunk_there [] 8 (length bytes / 8) bytes here.i (omega arith) in
    let within : here.i * 8 + 8 ≤ length bytes = omega arith in
    let long : length (get_or parts here.i []) ≡ 8 = ap length part ∙ part_length bytes (here.i * 8) 8 within in
    put (λ (m : ℕ). word_of (take 8 (drop (m * 8) bytes))) 0 here.words here.i c.from_le_bytes.result (c.from_le_bytes.ensures ∙ word_read (get_or parts here.i []) long ∙ ap word_of part) (omega arith) here.invariant

pub returns : goal.returns
returns c =
    let a = c.args in
    let here = c.loop-i in
    let n = length a.words.now in
    ext_get_or 0 here.words (words_of 8 n a.bytes.now) (here.auto.words ∙ sym (length_words 8 n a.bytes.now)) (λ i h. here.invariant i (omega arith) ∙ sym (word_there 8 n a.bytes.now i (omega arith)))
