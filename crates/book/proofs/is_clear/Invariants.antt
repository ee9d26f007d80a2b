-- is_clear: the words are all 0 where those from the next on are. Assumes nothing.
use Rattle.std.proofs.Common.{◌≡◌, drop}
use Rattle.book.specs.Soundness.{all_zero}
use Rattle.book.proofs.is_clear.Given as goal

abbrev pub invariant-loop-word : goal.invariant-loop-word
invariant-loop-word l = all_zero l.words ≡ all_zero (drop l.word-index l.words)
