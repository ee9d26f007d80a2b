-- is_blank: the bytes are all blanks where those from the next on are. Assumes nothing.
use Rattle.std.proofs.Common.{◌≡◌, drop}
use Rattle.dial_code.specs.Digits.{every}
use Rattle.code_entry.specs.Entry.{is_blank}
use Rattle.code_cell.proofs.is_blank.Given as goal

abbrev pub invariant-loop-b : goal.invariant-loop-b
invariant-loop-b l = every is_blank l.cell ≡ every is_blank (drop l.b-index l.cell)
