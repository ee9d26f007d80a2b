-- read_number meets its contract. Assumes nothing.
use Rattle.std.proofs.Common.{◌+◌, ◌-◌, ◌<◌, sym, rules, arith}
use Rattle.varint.proofs.Model.{a_byte, all_read, sum_fits, turn}
use Rattle.varint.proofs.read_number.Goals.{After-from-group}
use Rattle.varint.proofs.read_number.Goals as goal

-- the byte that is read
byte : (c : After-from-group) → c.from-group.result < 256
byte c =
    let b = a_byte c.args.s.now c.args.at c.loop-i.i c.in-Some.ensures.lookup.0.2 (c.type_inv.s (c.args.at + c.loop-i.i)).fits in
    search rules

pub overflow_mul-sum : goal.overflow_mul-sum
overflow_mul-sum c =
    let b = byte (goal.at.overflow_mul-sum c).After-from-group in
    omega (arith, sum_fits c.loop-i.invariant c.loop-i-test.true (c.from-group.result - 128) (omega arith))

pub overflow_add-sum : goal.overflow_add-sum
overflow_add-sum c =
    let b = byte (goal.at.overflow_add-sum c).After-from-group in
    omega (arith, sum_fits c.loop-i.invariant c.loop-i-test.true (c.from-group.result - 128) (omega arith))

pub loop-i-preserved : goal.loop-i-preserved
loop-i-preserved c =
    turn c.loop-i.invariant c.loop-i-test.true c.from-group.result (search rules) (search rules) c.if-group-lt128.false
    (byte (goal.at.loop-i-preserved c).After-from-group)

pub returns : goal.returns
returns c = sym (all_read c.loop-i.invariant (omega arith))
