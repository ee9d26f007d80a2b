-- read_number: what the bytes ahead read as, put above the groups that are read, is what the rule reads. Assumes nothing.
use Rattle.varint.specs.Reading.{read_number}
use Rattle.varint.proofs.Model.{Ahead}
use Rattle.varint.proofs.read_number.Given as goal

abbrev pub invariant-loop-i : goal.invariant-loop-i
invariant-loop-i l = Ahead (read_number l.s l.at) l.at l.i l.place l.sum l.rest
