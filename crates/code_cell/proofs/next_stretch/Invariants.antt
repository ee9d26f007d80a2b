use Rattle.std.proofs.Common.{◌≡◌}
use Rattle.code_cell.specs.Count.{marks_end, stretch, closest}
use Rattle.code_cell.specs.Reading.{ranges_left}
use Rattle.code_cell.proofs.next_stretch.Given as goal

abbrev pub invariant-loop-range : goal.invariant-loop-range
invariant-loop-range l = closest l.from l.found (ranges_left l.range-iterator) ≡ closest l.from (stretch marks_end marks_end) (ranges_left l.fn.entries)
