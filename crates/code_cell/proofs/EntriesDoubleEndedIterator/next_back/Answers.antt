use Rattle.std.proofs.Common.{sym, ◌∙◌}
use Rattle.code_cell.proofs.Names.{last_left, read_codes, read_refused}
use Rattle.code_cell.proofs.Walks.{read_so, not_read, read_last, last_refused}
use Rattle.code_cell.proofs.EntriesDoubleEndedIterator.next_back.Goals as goal

pub returns-in_err-range-clause-steps : goal.returns-in_err-range-clause-steps
returns-in_err-range-clause-steps c =
    let n = not_read _ (sym c.ok.ensures.value ∙ c.in_err-range.was) in
    rw c.from_residual-in_err-range.ensures
    (last_refused c.args.self.now _ c.in_ok-self.was _ _
    (last_left _ _ _ _ c.split_last.ensures.0 c.split_last.ensures.1 _ (read_refused _ _ _ (sym c.read_entry.ensures ∙ n.1))))

pub returns-clause-steps : goal.returns-clause-steps
returns-clause-steps c =
    read_last c.args.self.now _ c.in_ok-self.was _ _
    (last_left _ _ _ _ c.split_last.ensures.0 c.split_last.ensures.1 _
    (read_codes _ _ _ _ (sym c.read_entry.ensures ∙ read_so _ _ (sym c.ok.ensures.value ∙ c.in_ok-range.was))).0)
