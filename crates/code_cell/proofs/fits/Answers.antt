use Rattle.std.proofs.Common.{◌≡◌, ◌+◌, ◌-◌, ◌≤◌, ◌<◌, leb, refl, ap, sym, ◌∙◌, arith}
use Rattle.code_cell.specs.Count.{marks_end}
use Rattle.code_cell.specs.Reading.{ranges_left}
use Rattle.code_cell.proofs.Scans.{all_left, none_left, some_left}
use Rattle.code_cell.proofs.Refusals.{left_writable, codes_left, spent, no_room, none_more}
use Rattle.code_cell.proofs.fits.Goals.{In-Some}
use Rattle.code_cell.proofs.fits.Goals as goal

-- the next stretch, and what is left after it
more_at : (c : In-Some) →
    let t = c.in-Some.next in
    (c.loop-next.from < t.end)
    × (t.end ≤ marks_end)
    × (t.start < t.end)
    × (codes_left c.args.entries c.loop-next.from ≡ t.end - t.start + codes_left c.args.entries t.end)
more_at c =
    let e = c.in-Some.ensures in
    some_left (ranges_left c.args.entries) (left_writable c.args.entries) _ _ e.0 e.1

pub loop-next-init : goal.loop-next-init
loop-next-init c = (
  omega arith,
  ap (λ n. leb n c.args.room) (all_left (ranges_left c.args.entries) (left_writable c.args.entries)),
)

pub returns : goal.returns
returns c =
    sym
    (sym c.loop-next.invariant.1
    ∙ none_more _ _ (none_left (ranges_left c.args.entries) (left_writable c.args.entries) _ _ refl c.in_default.ensures))

pub overflow_sub-codes : goal.overflow_sub-codes
overflow_sub-codes c = omega (arith, (more_at (goal.at.overflow_sub-codes c).In-Some).2)

pub returns-then-left-codes : goal.returns-then-left-codes
returns-then-left-codes c =
    sym (sym c.loop-next.invariant.1 ∙ no_room _ _ _ _ (more_at (goal.at.returns-then-left-codes c).In-Some).3 c.if-left-codes.true)

pub loop-next-smaller : goal.loop-next-smaller
loop-next-smaller c =
    let m = more_at (goal.at.loop-next-smaller c).In-Some in
    omega (arith, m.0, m.1)

pub loop-next-preserved : goal.loop-next-preserved
loop-next-preserved c =
    let m = more_at (goal.at.loop-next-preserved c).In-Some in
    (m.1, spent _ _ _ _ m.3 c.if-left-codes.false ∙ c.loop-next.invariant.1)
