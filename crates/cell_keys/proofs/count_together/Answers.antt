use Rattle.std.proofs.Common.{refl}
use Rattle.code_cell.proofs.RangeKeys.{range_keys_law}
use Rattle.cell_keys.proofs.Turns.{count_old, count_new, count_ends, count_rest}
use Rattle.cell_keys.proofs.count_together.Goals as goal

pub loop-p-preserved-then-key-x : goal.loop-p-preserved-then-key-x
loop-p-preserved-then-key-x c =
    count_old _ _ _ _ _ _ _ _ _ _ c.loop-p.invariant c.loop-p-test.true c.requires.in_bounds refl c.if-key-x.true

pub returns-then-left-eq0 : goal.returns-then-left-eq0
returns-then-left-eq0 c =
    rw (← c.range.view_is, range_keys_law)
    (count_ends _ _ _ _ _ _ _ _ _ _ c.loop-p.invariant c.loop-p-test.true c.requires.in_bounds refl _ c.from-p.ensures
    c.if-key-x.false c.if-left-eq0.true)

pub loop-p-preserved : goal.loop-p-preserved
loop-p-preserved c =
    count_new _ _ _ _ _ _ _ _ _ _ c.loop-p.invariant c.loop-p-test.true c.requires.in_bounds refl _ c.from-p.ensures
    c.if-key-x.false _ c.if-left-eq0.false c.key_step-key.ensures

pub returns : goal.returns
returns c = rw (← c.range.view_is, range_keys_law) (count_rest _ _ _ _ _ _ _ _ _ c.loop-p.invariant c.loop-p-test.false)
