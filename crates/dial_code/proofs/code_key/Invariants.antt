-- code_key meets its contract.
use Rattle.dial_code.proofs.CountedKeys.{Weighed}
use Rattle.dial_code.proofs.code_key.Given as goal

abbrev pub invariant-loop : goal.invariant-loop
invariant-loop l = Weighed l.count l.value l.counter l.key l.weight l.rest
