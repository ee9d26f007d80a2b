-- key_code meets its contract.
use Rattle.dial_code.proofs.KeyCode.{Reads}
use Rattle.dial_code.proofs.key_code.Given as goal

abbrev pub invariant-loop-count : goal.invariant-loop-count
invariant-loop-count l = Reads l.key l.count l.value l.rest
