-- The tests by the count of digits.
use Rattle.std.proofs.Common.{◌||◌, eqb, ap, sym, ◌∙◌, arith}
use borrow.Author.Tests.{eq-eqb, ne_eqb}
use Rattle.dial_code.proofs.CountedKeys.{few_tens}
use Rattle.code_entry.proofs.CodeTests.{one_digit_law, by_first, no_digit, over_long, sent_law}
use Rattle.code_entry.proofs.Typed.is_code.Goals as goal

pub returns-then-self-eq1 : goal.returns-then-self-eq1
returns-then-self-eq1 c =
    let e = eq-eqb _ _ c.if-self-eq1.true in
    rw (← c.self.view_is) (e ∙ sym (one_digit_law _ _ c.in-1.is c.self.invariant ∙ ap (λ t. t || eqb c.self.inside.value 7) e))

pub returns-else-self-eq1 : goal.returns-else-self-eq1
returns-else-self-eq1 c =
    rw (← c.self.view_is) (sym (one_digit_law _ _ c.in-1.is c.self.invariant ∙ rw (ne_eqb _ _ c.if-self-eq1.false)))

pub returns-in-2 : goal.returns-in-2
returns-in-2 c =
    rw (← c.self.view_is, c.is_two_digit_code.ensures, ← c.in-2.is) (sent_law _ _ (omega arith) c.self.invariant)

pub returns-in-3-to-15 : goal.returns-in-3-to-15
returns-in-3-to-15 c =
    rw (← c.self.view_is, few_tens _ _ (omega arith) c.ten_to.ensures) (sym (by_first _ _ (omega arith) (omega arith) c.self.invariant))

pub returns-in_default : goal.returns-in_default
returns-in_default c = rw (← c.self.view_is) (sym (no_digit _ _ (omega arith)))

pub returns-in_default-2 : goal.returns-in_default-2
returns-in_default-2 c = rw (← c.self.view_is) (sym (over_long _ _ (omega arith)))
