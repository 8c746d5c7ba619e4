-- `words::read_words` meets its contract: the first i words are those that the bytes write.
use Prim.Native.Nat.{ℕ, ◌*◌}
use lib.ListN.{take, drop}
use Rattle.lists.specs.Bookkeeping.{Filled}
use Rattle.words.specs.Words.{word_of}
use Rattle.words.proofs.read_words.Given as goal

abbrev pub invariant-loop-i : goal.invariant-loop-i
invariant-loop-i l = Filled (λ (m : ℕ). word_of (take 8 (drop (m * 8) l.bytes))) 0 l.words l.i
