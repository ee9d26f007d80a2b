use Rattle.std.proofs.Common.{◌≡◌, refl, sym, ◌∙◌, arith}
use Rattle.book.proofs.Rules.{not_zero, one_zero, all_seen}
use Rattle.book.proofs.is_clear.Goals as goal

pub returns-then-word-ne0 : goal.returns-then-word-ne0
returns-then-word-ne0 c = sym (c.loop-word.invariant ∙ not_zero _ _ c.loop-word-test.true (λ z. omega arith))

pub loop-word-preserved : goal.loop-word-preserved
loop-word-preserved c = c.loop-word.invariant ∙ one_zero _ _ c.loop-word-test.true (omega arith)

pub returns : goal.returns
returns c = sym (c.loop-word.invariant ∙ all_seen c.args.words.now c.loop-word.word-index (omega arith))
