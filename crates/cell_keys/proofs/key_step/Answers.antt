-- key_step meets its contract. Assumes nothing.
use Prim.Native.Nat.{◌-◌}
use Rattle.cell_keys.proofs.Steps.{starts, turn, ends}
use Rattle.cell_keys.proofs.key_step.Goals as goal

pub loop-v-init : goal.loop-v-init
loop-v-init c = (c.args.digits, starts _ _ _ c.requires.run c.requires.weight_is)

pub loop-v-preserved : goal.loop-v-preserved
loop-v-preserved c = let l = c.loop-v in (l.invariant.0 - 1, turn _ _ _ _ _ _ l.invariant.1 c.loop-v-test.true)

pub returns : goal.returns
returns c = let l = c.loop-v in ends _ _ _ _ _ _ l.invariant.1 c.loop-v-test.false
