-- The digits from the place `i` on, behind those so far, are those from the start on.
use Rattle.std.proofs.Common.{◌≡◌, ◌+◌, drop}
use Rattle.code_entry.specs.Scan.{run_of}
use Rattle.code_entry.proofs.read_digits.Given as goal

abbrev pub invariant-loop-i : goal.invariant-loop-i
invariant-loop-i l = run_of l.code (l.start + l.i) (drop l.i l.b-items) ≡ run_of l.fn.own l.start (drop l.start l.cell)
