-- code_key meets its contract. Assumes nothing.
use Rattle.std.proofs.Common.{arith, sym}
use Rattle.dial_code.proofs.CountedKeys.{turn, more_digits}
use Rattle.dial_code.proofs.code_key.Goals as goal

pub loop-preserved : goal.loop-preserved
loop-preserved c = turn c.loop.invariant c.loop-test.true (omega arith)

pub returns-then-rest-ne0 : goal.returns-then-rest-ne0
returns-then-rest-ne0 c =
    sym (more_digits c.loop.invariant (omega (arith, c.loop-test.false, c.loop.auto.counter-end)) (omega arith) (omega arith) c.if-rest-ne0.true)
