use Rattle.std.proofs.Common.{◌+◌}
use Rattle.cell_keys.proofs.Turns.{Counts}
use Rattle.cell_keys.proofs.count_together.Given as goal

abbrev pub invariant-loop-p : goal.invariant-loop-p
invariant-loop-p l = Counts l.range-inside.digits l.range-inside.first l.range-inside.count l.old l.keys l.key l.left l.p l.n

abbrev pub decreases-loop-p : goal.decreases-loop-p
decreases-loop-p l = l.left + l.p
