-- key_step meets its contract. Assumes nothing.
use Prim.Native.Nat.{ℕ}
use Rattle.cell_keys.proofs.Steps.{Carries}
use Rattle.cell_keys.proofs.key_step.Given as goal

abbrev pub invariant-loop-v : goal.invariant-loop-v
invariant-loop-v l = (k : ℕ) × Carries l.digits l.value k l.v l.w l.less

abbrev pub decreases-loop-v : goal.decreases-loop-v
decreases-loop-v l = l.v
