-- Laws of the refusals' numbers. Assumes nothing.
use Prim.Native.Nat.{◌≤◌}
use Rattle.std.proofs.Common.{arith}
use Rattle.refusal.specs.Refusal.{number_of}
use Rattle.refusal.specs.declared.Refusal.{Refusal}

-- A refusal that is told to a host is not 0, which tells of none.
pub number_least : (e : Refusal) → 1 ≤ number_of e
number_least e = grind arith
