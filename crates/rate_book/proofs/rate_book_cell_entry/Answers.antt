-- rate_book_cell_entry meets its contract: what is read of the entry, as numbers. Assumes nothing.
use Rattle.std.proofs.Common.{◌≡◌, ap, sym, ◌∙◌, Ok, length}
use Rattle.code_cell.specs.Cell.{entry_keys}
use Rattle.cell_keys.specs.Answers.{entry_read, seen}
use Rattle.answers.proofs.EntryAnswers.{answered, part_within}
use Rattle.rate_book.proofs.rate_book_cell_entry.Goals.{In-Ok}
use Rattle.rate_book.proofs.rate_book_cell_entry.Goals as goal

-- what is read of the entry
read : (c : In-Ok) →
    let a = c.args in
    Ok (c.in-Ok.count, c.in-Ok.rest.now) ≡ entry_read (entry_keys a.country.now a.cell.now (length a.keys.now)) a.cell.now
read c = ap seen (sym c.in-Ok.is) ∙ c.entry_keys.ensures.value

pub overflow_sub-result : goal.overflow_sub-result
overflow_sub-result c = part_within c.args.cell.now _ _ _ (read (goal.at.overflow_sub-result c).In-Ok)

pub returns-in-Ok-clause-value : goal.returns-in-Ok-clause-value
returns-in-Ok-clause-value c = answered c.args.cell.now _ _ _ (read (goal.at.returns-in-Ok-clause-value c).In-Ok)
