use Rattle.std.proofs.Common.{◌≡◌, refl, sym, ◌∙◌, arith}
use Rattle.code_cell.proofs.Looks.{blank_next, blank_not, blank_end}
use Rattle.code_cell.proofs.is_blank.Goals as goal

pub returns-then-b-ne32 : goal.returns-then-b-ne32
returns-then-b-ne32 c = sym (c.loop-b.invariant ∙ blank_not _ _ c.loop-b-test.true (λ z. omega arith))

pub loop-b-preserved : goal.loop-b-preserved
loop-b-preserved c = c.loop-b.invariant ∙ blank_next _ _ c.loop-b-test.true (omega arith)

pub returns : goal.returns
returns c = sym (c.loop-b.invariant ∙ blank_end c.args.cell.now c.loop-b.b-index (omega arith))
