-- `words::write_words` meets its contract: the first i words are written.
use Prim.Native.Nat.{ℕ, ◌*◌}
use lib.ListN.{length, get_or}
use Rattle.lists.proofs.Stretches.{Written}
use Rattle.words.specs.Words.{all_bytes}
use Rattle.words.proofs.write_words.Given as goal

abbrev pub invariant-loop-i : goal.invariant-loop-i
invariant-loop-i l = Written (λ (m : ℕ). get_or (all_bytes 8 l.words) m 0) 0 8 (length l.words * 8) l.bytes l.i
