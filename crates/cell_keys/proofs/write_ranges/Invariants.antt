-- The keys of the ranges that were read stand at the front.
use Rattle.cell_keys.proofs.Writes.{Written}
use Rattle.cell_keys.proofs.write_ranges.Given as goal

abbrev pub invariant-loop-range : goal.invariant-loop-range
invariant-loop-range g l = Written l.fn.keys l.yielded l.n l.keys
