use Rattle.std.proofs.Common.{◌+◌}
use Rattle.cell_keys.proofs.Turns.{Merging}
use Rattle.cell_keys.proofs.merge.Given as goal

abbrev pub invariant-loop-p : goal.invariant-loop-p
invariant-loop-p l = Merging l.range-inside.digits l.range-inside.first l.range-inside.count l.old l.fn.keys l.key l.left l.p l.end l.keys

abbrev pub decreases-loop-p : goal.decreases-loop-p
decreases-loop-p l = l.left + l.p
