-- `merge::keep_listed` meets its contract. The loop's invariant: keeping what is left of the code's entries does the whole. Assumes nothing.
use Rattle.std.proofs.Common.{◌≡◌, ◌+◌, ◌*◌, ◌≤◌, length}
use Rattle.book_words.specs.Layout.{put_entries}
use Rattle.merge_rule.specs.Passes.{kept_of, status_of, rest_after}
use Rattle.merge.specs.Merge.{most_merged}
use Rattle.merge.proofs.keep_listed.Given as goal

abbrev pub invariant-loop-e : goal.invariant-loop-e
invariant-loop-e l =
    (l.count + 2 * length l.rest ≤ most_merged)
    × (l.count + length (kept_of l.change l.rest) ≡ l.initial.count + length (kept_of l.change l.initial.rest))
    × (put_entries l.new l.count (kept_of l.change l.rest) ≡ put_entries l.initial.new l.initial.count (kept_of l.change l.initial.rest))
    × (status_of l.change l.status l.rest ≡ status_of l.change 0 l.initial.rest)
    × (rest_after l.change.key l.rest ≡ rest_after l.change.key l.initial.rest)

abbrev pub decreases-loop-e : goal.decreases-loop-e
decreases-loop-e l = length l.rest
