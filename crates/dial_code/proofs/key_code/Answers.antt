-- key_code meets its contract. Assumes nothing.
use Rattle.dial_code.proofs.KeyCode.{turn}
use Rattle.dial_code.proofs.key_code.Goals as goal

pub loop-count-preserved : goal.loop-count-preserved
loop-count-preserved c = turn c.loop-count.invariant c.loop-count-test.true c.if-rest-lt-FIRST_PLACE.false
