-- The loop of next keeps the lines that are left.
use Rattle.std.proofs.Common.{◌≡◌, length}
use Rattle.standing.specs.Pass.{passed}
use Rattle.standing.proofs.LinesIterator.next.Given as goal

abbrev pub invariant-loop-e : goal.invariant-loop-e
invariant-loop-e l = passed l.self-inside.rest l.self-inside.day ≡ passed l.initial.self-inside.rest l.initial.self-inside.day

abbrev pub decreases-loop-e : goal.decreases-loop-e
decreases-loop-e l = length l.self-inside.rest
