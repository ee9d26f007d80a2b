use Rattle.std.proofs.Common.{◌≡◌}
use Rattle.code_cell.specs.Count.{ordered, no_order}
use Rattle.code_cell.specs.Reading.{ranges_left}
use Rattle.code_cell.proofs.is_ordered.Given as goal

abbrev pub invariant-loop-range : goal.invariant-loop-range
invariant-loop-range l = ordered l.order (ranges_left l.range-iterator) ≡ ordered no_order (ranges_left l.fn.entries)
