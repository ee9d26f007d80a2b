-- Marking the lines that are left comes to the marks of all of them.
use Rattle.std.proofs.Common.{◌≡◌}
use Rattle.country_marks.specs.Marks.{marks_of}
use Rattle.country_marks.proofs.mark_lines.Given as goal

abbrev pub invariant-loop-line : goal.invariant-loop-line
invariant-loop-line l = marks_of l.marks l.line-iterator ≡ marks_of l.initial.marks l.initial.line-iterator
