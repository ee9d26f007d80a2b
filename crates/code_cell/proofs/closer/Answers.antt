use Rattle.std.proofs.Common.{arith}
use Rattle.code_entry.specs.Range.{range_of}
use Rattle.code_cell.proofs.Looks.{low_so}
use Rattle.code_cell.proofs.Marks.{high_most}
use Rattle.code_cell.proofs.closer.Goals as goal

pub overflow_add-low : goal.overflow_add-low
overflow_add-low c = let w = c.range.invariant in omega (arith, low_so c.range.inside.digits c.range.inside.first c.ten_to.result w.few c.ten_to.ensures, high_most (range_of c.range.inside.digits c.range.inside.first c.range.inside.count) w)

pub overflow_add-high : goal.overflow_add-high
overflow_add-high c = let w = c.range.invariant in omega (arith, low_so c.range.inside.digits c.range.inside.first c.ten_to.result w.few c.ten_to.ensures, high_most (range_of c.range.inside.digits c.range.inside.first c.range.inside.count) w)
