-- `update::NewBook::merge` meets its contract. Assumes nothing.
use Rattle.merge.proofs.Merging.{answered}
use Rattle.update.proofs.NewBook.merge.Goals as goal

pub returns-clause-value : goal.returns-clause-value
returns-clause-value c =
    let b = c.self.inside in
    rw (← c.self.view_is) (answered b.before.now b.closings.plan b.closings.marks.now b.notice.now b.header.start b.header.lines c.self.invariant c.merge.ensures.value)
