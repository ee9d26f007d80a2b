use Rattle.std.proofs.Common.{◌≡◌, false, length, ap, sym, ◌∙◌, None}
use borrow.Author.Tests.{leb-true, leb-false}
use Rattle.code_cell.specs.Cell.{is_own, entries_of, entry_names, checked}
use Rattle.code_cell.specs.Count.{outcome, bound_of}
use Rattle.code_cell.specs.Reading.{good_ranges, ranges_left}
use Rattle.code_cell.proofs.Refusals.{own_cell, cell_few, cell_many, look_few, good_writable}
use Rattle.code_cell.proofs.Orders.{look_many}
use Rattle.code_cell.proofs.check_cell.Goals.{After-look_over-survey, else-not-is_ordered-via-then-not-is_ordered+else-fits, else-not-is_ordered-via-else-not-is_ordered}
use Rattle.code_cell.proofs.check_cell.Goals as goal

-- a cell that does not mean the country's own code, and the first look at it
plain_at : (c : After-look_over-survey) → is_own c.args.country.now c.args.cell.now ≡ false
plain_at c = sym c.is_own.ensures ∙ c.if-is_own.false

-- what they name
ranges_at : (c : After-look_over-survey) → ranges_left c.new-entries.result ≡ good_ranges (entry_names c.args.country.now c.args.cell.now)
ranges_at c = ap good_ranges c.new-entries.ensures

-- the first look
bound_at : (c : After-look_over-survey) →
    c.look_over-survey.result.bound ≡ bound_of (length c.args.keys.now) 0 None (good_ranges (entry_names c.args.country.now c.args.cell.now))
bound_at c = ap (λ x. x.bound) c.look_over-survey.ensures ∙ ap (bound_of (length c.args.keys.now) 0 None) (ranges_at c)

answer_at : (c : After-look_over-survey) → c.look_over-survey.result.answer ≡ outcome (entry_names c.args.country.now c.args.cell.now)
answer_at c = ap (λ x. x.answer) c.look_over-survey.ensures ∙ ap outcome c.new-entries.ensures

pub returns-then-is_own : goal.returns-then-is_own
returns-then-is_own c =
    c.check_own.ensures ∙ sym (ap checked (own_cell _ _ _ (sym c.is_own.ensures ∙ c.if-is_own.true)))

pub returns-then-survey-room : goal.returns-then-survey-room
returns-then-survey-room c =
    let g = (goal.at.returns-then-survey-room c).After-look_over-survey in
    answer_at g ∙ sym (cell_few _ _ _ (plain_at g) (look_few _ _ (rw (bound_at g) at c.if-survey-room.true)))

pub returns-then-fits : goal.returns-then-fits
returns-then-fits c =
    let g = (goal.at.returns-then-fits c).After-look_over-survey in
    answer_at g ∙ sym (cell_few _ _ _ (plain_at g) (rw (ranges_at g) at (leb-true _ _ (sym c.fits.ensures ∙ c.if-fits.true))))

pub returns : goal.returns
returns c =
    let g = (goal.at.returns c).After-look_over-survey in
    sym
    (cell_many _ _ _ (plain_at g) (elim c.else-not-is_ordered.branch [
      | else-not-is_ordered-via-then-not-is_ordered+else-fits w ↦
          rw (ranges_at g) at (leb-false _ _ (sym w.fits.ensures ∙ w.if-fits.false))
      | else-not-is_ordered-via-else-not-is_ordered w ↦
          look_many _ _ (good_writable c.args.country.now (entries_of c.args.cell.now))
          (rw (ranges_at g) at (sym c.is_ordered.ensures ∙ w.if-not-is_ordered.false)) (rw (bound_at g) at c.if-survey-room.false)
    ]))
