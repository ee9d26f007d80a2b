-- `merge::pass_unlisted` meets its contract. The loop's invariant: putting what is left of the gap does the whole of it, and codes
-- remembered as alike are closed alike. Assumes nothing.
use Rattle.std.proofs.Common.{◌≡◌, ◌+◌, ◌*◌, ◌≤◌, length}
use Rattle.book_words.specs.Layout.{put_entries}
use Rattle.merge_rule.specs.Passes.{gap_below, rest_from}
use Rattle.closing.specs.Closings.{closes_by}
use Rattle.closing.proofs.ClosingLaws.{ClosedAlike}
use Rattle.merge.specs.Merge.{most_merged}
use Rattle.merge.proofs.pass_unlisted.Given as goal

abbrev pub invariant-loop-e : goal.invariant-loop-e
invariant-loop-e l =
    (l.count + 2 * length l.rest ≤ most_merged)
    × (l.count + length (gap_below l.below (closes_by l.closings.plan l.closings.marks.now) l.closings.plan.closing l.rest)
    ≡ l.initial.count + length (gap_below l.below (closes_by l.closings.plan l.closings.marks.now) l.closings.plan.closing l.initial.rest))
    × (put_entries l.new l.count (gap_below l.below (closes_by l.closings.plan l.closings.marks.now) l.closings.plan.closing l.rest)
    ≡ put_entries l.initial.new l.initial.count (gap_below l.below (closes_by l.closings.plan l.closings.marks.now) l.closings.plan.closing l.initial.rest))
    × (rest_from l.below l.rest ≡ rest_from l.below l.initial.rest)
    × ClosedAlike l.closings.plan l.closings.marks.now l.alike

abbrev pub decreases-loop-e : goal.decreases-loop-e
decreases-loop-e l = length l.rest
