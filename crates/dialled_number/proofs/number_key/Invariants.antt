-- number_key meets its contract.
use Rattle.dialled_number.proofs.Spelling.{Spelled}
use Rattle.dialled_number.proofs.number_key.Given as goal

abbrev pub invariant-loop-byte : goal.invariant-loop-byte
invariant-loop-byte l = Spelled l.number l.byte-index l.key
