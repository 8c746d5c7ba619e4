-- `words::write_words` meets its contract: the first i words are written.
use Prim.Native.Nat.{ℕ, ◌+◌, ◌*◌}
use mathlib.Core.Path.{◌≡◌, ap, sym, ◌∙◌}
use mathlib.Core.List.{List}
use native.Mathlib.Omega.{arith}
use lib.ListN.{length, get_or}
use lib.Seq.{ext_get_or}
use Rattle.lists.specs.Bookkeeping.{Filled}
use Rattle.lists.proofs.Stretches.{next_written}
use Rattle.words.specs.Words.{all_bytes, bytes_of}
use Rattle.words.proofs.Numbers.{length_all, byte_there}
use Rattle.words.proofs.Library.{word_written}
use Rattle.words.proofs.write_words.Goals as goal

pub loop-i-preserved : goal.loop-i-preserved
loop-i-preserved c =
    let call = c.copy_from_slice in
    let here = c.loop-i in
    let words = c.args.words.now in
    let put : call.new.self ≡ bytes_of 8 (get_or words here.i 0) = call.ensures.after ∙ c.to_le_bytes.ensures ∙ word_written (get_or words here.i 0) in
    let new : Filled (λ (m : ℕ). get_or (all_bytes 8 words) (here.i * 8 + m) 0) 0 call.new.self 8 = λ m h. ap (λ (l : List ℕ). get_or l m 0) put ∙ sym (byte_there 8 words here.i m (omega arith) h) in
    next_written (λ (m : ℕ). get_or (all_bytes 8 words) m 0) 0 8 (length words) here.bytes call.new.self here.i (omega arith) here.invariant call.auto.self new

pub returns : goal.returns
returns c =
    let words = c.args.words.now in
    let here = c.loop-i in
    let all : here.i ≡ length words = omega arith in
    ext_get_or 0 here.bytes (all_bytes 8 words) (here.invariant.same ∙ sym (length_all 8 words)) (λ i h. here.invariant.filled i (omega (arith, here.invariant.same)))
