use Rattle.std.proofs.Common.{◌≡◌, None, length}
use Rattle.code_cell.specs.Count.{bound_of, outcome}
use Rattle.code_cell.specs.Reading.{names_left, ranges_left}
use Rattle.code_cell.proofs.look_over.Given as goal

abbrev pub invariant-loop-read : goal.invariant-loop-read
invariant-loop-read l =
    (bound_of l.room l.bound l.before (ranges_left l.left) ≡ bound_of l.room 0 None (ranges_left l.entries))
    × (outcome (names_left l.left) ≡ outcome (names_left l.entries))

abbrev pub decreases-loop-read : goal.decreases-loop-read
decreases-loop-read l = length (names_left l.left)
