-- No sum wraps: a value of less than 15 digits is below 10^14.
use Rattle.std.proofs.Common.{arith}
use Rattle.code_entry.proofs.Counting.{push_fits}
use Rattle.code_entry.proofs.Typed.push.Goals as goal

pub overflow_mul-self-inside : goal.overflow_mul-self-inside
overflow_mul-self-inside c =
    record { fits = omega (arith, push_fits _ _ _ c.self.invariant c.requires c.if-self-lt-MOST_DIGITS.true) }

pub overflow_add-self-inside-then-self-lt-MOST_DIGITS : goal.overflow_add-self-inside-then-self-lt-MOST_DIGITS
overflow_add-self-inside-then-self-lt-MOST_DIGITS c =
    record { fits = omega (arith, push_fits _ _ _ c.self.invariant c.requires c.if-self-lt-MOST_DIGITS.true) }
