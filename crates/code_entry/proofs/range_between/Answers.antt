use Rattle.std.proofs.Common.{◌≡◌, true, ◌+◌, ◌-◌, ap, sym, ◌∙◌, inl, inr, arith}
use Rattle.allowed_code.specs.Code.{is_code}
use Rattle.code_entry.specs.Range.{range_of}
use Rattle.code_entry.specs.Entry.{code_range, whole_range}
use Rattle.code_entry.specs.Scan.{digits_of}
use Rattle.code_entry.proofs.Ranges.{no_ends, ends, last_below, last_fits, range_written, some_not_allowed, too_many, all_named}
use Rattle.code_entry.proofs.range_between.Goals.{Else-last-first, then-first-last-via-then-first-last, then-first-last-via-else-first-last+then-last-first}
use Rattle.code_entry.proofs.range_between.Goals as goal

pub returns-then-first-last : goal.returns-then-first-last
returns-then-first-last c =
    rw (← c.first.view_is, ← c.last.view_is)
    (sym (no_ends _ _ _ _ c.first.invariant c.last.invariant (elim c.then-first-last.branch [
      | then-first-last-via-then-first-last w ↦ inl w.if-first-last.true
      | then-first-last-via-else-first-last+then-last-first w ↦ inr w.if-last-first.true
    ])))

-- an allowed first code, and a range of ends that do not fall
allowed : (c : Else-last-first) → is_code (digits_of record { count = c.first.inside.count; value = c.first.inside.value }) ≡ true
allowed c = ap (λ x. is_code (digits_of x)) c.first.view_is ∙ c.requires

whole : (c : Else-last-first) →
    code_range true (digits_of c.args.first) (digits_of c.args.last)
    ≡ whole_range (range_of c.first.inside.count c.first.inside.value (c.last.inside.value + 1 - c.first.inside.value))
whole c =
    rw (← c.first.view_is, ← c.last.view_is) (ends _ _ _ _ c.first.invariant c.last.invariant (omega arith) c.if-last-first.false)

pub overflow_add-count : goal.overflow_add-count
overflow_add-count c =
    let m = last_fits _ _ _ _ c.first.invariant c.last.invariant (omega arith) c.if-last-first.false (allowed (goal.at.overflow_add-count c).Else-last-first) in
    record { fits = omega (arith, m) }

pub returns-then-not-are_codes : goal.returns-then-not-are_codes
returns-then-not-are_codes c =
    let q = rw (← c.first.view_is) at (sym c.are_codes.ensures ∙ c.if-not-are_codes.true) in
    sym (whole (goal.at.returns-then-not-are_codes c).Else-last-first ∙ some_not_allowed _ _ _ q)

pub returns-then-count-gt-MOST_CODES : goal.returns-then-count-gt-MOST_CODES
returns-then-count-gt-MOST_CODES c =
    let q = rw (← c.first.view_is) at (sym c.are_codes.ensures ∙ c.if-not-are_codes.false) in
    sym (whole (goal.at.returns-then-count-gt-MOST_CODES c).Else-last-first ∙ too_many _ _ _ q c.if-count-gt-MOST_CODES.true)

pub invariant_of-result : goal.invariant_of-result
invariant_of-result c =
    let e = c.first-2.view_is ∙ sym c.first.view_is in
    rw (ap (λ x. x.count) e, ap (λ x. x.value) e)
    (range_written _ _ _ (allowed (goal.at.invariant_of-result c).Else-last-first) (omega arith) (omega arith)
    (last_below _ _ _ _ c.first.invariant c.last.invariant (omega arith) c.if-last-first.false))

pub returns : goal.returns
returns c =
    let e = c.first-2.view_is ∙ sym c.first.view_is in
    let q = rw (← c.first.view_is) at (sym c.are_codes.ensures ∙ c.if-not-are_codes.false) in
    rw (ap (λ x. x.count) e, ap (λ x. x.value) e)
    (sym (whole (goal.at.returns c).Else-last-first ∙ all_named _ _ _ q c.if-count-gt-MOST_CODES.false))
