-- Merging what is left of the old entries with the lines that are left comes to the merge of all (`Merging`), and the count
-- stays small.
use Rattle.std.proofs.Common.{◌+◌, ◌*◌, ◌≤◌, length}
use Rattle.merge.specs.Merge.{most_merged}
use Rattle.merge.proofs.Merging.{Merging}
use Rattle.merge.proofs.merge.Given as goal

abbrev pub invariant-loop-line : goal.invariant-loop-line
invariant-loop-line l = record {
  few : l.place.count + 2 * length l.place.rest + length l.line-iterator ≤ most_merged;
  merging : Merging l.old l.closings.plan l.closings.marks.now l.initial.new l.initial.line-iterator l.new l.place.rest l.place.count l.latest l.line-iterator;
}
