use Rattle.code_cell.proofs.Walks.{gives_none, gives_first}
use Rattle.code_cell.proofs.EntriesIterator.next.Goals as goal

pub returns-in_err-read-clause-steps : goal.returns-in_err-read-clause-steps
returns-in_err-read-clause-steps c =
    rw c.from_residual.ensures (gives_none _ _ (rw c.in_err-read.was at c.read.ensures))

pub returns-clause-steps : goal.returns-clause-steps
returns-clause-steps c = rw c.ok.ensures.value (gives_first _ _ _ (rw c.in_ok-read.was at c.read.ensures))
