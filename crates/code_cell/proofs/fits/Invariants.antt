-- The codes left to count from a number on fit the room left where all fit the room.
use Rattle.std.proofs.Common.{◌≡◌, ◌-◌, ◌≤◌, [], length, leb}
use Rattle.code_cell.specs.Count.{marks_end, all_keys}
use Rattle.code_cell.specs.Reading.{ranges_left}
use Rattle.code_cell.proofs.Refusals.{codes_left}
use Rattle.code_cell.proofs.fits.Given as goal

abbrev pub invariant-loop-next : goal.invariant-loop-next
invariant-loop-next l =
    (l.from ≤ marks_end)
    × (leb (codes_left l.entries l.from) l.left ≡ leb (length (all_keys [] (ranges_left l.entries))) l.room)

abbrev pub decreases-loop-next : goal.decreases-loop-next
decreases-loop-next l = marks_end - l.from
