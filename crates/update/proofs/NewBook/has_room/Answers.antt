-- `update::NewBook::has_room` meets its contract: room for the most entries is room for those that there are. Assumes nothing.
use mathlib.Core.Path.{sym, ap}
use native.Mathlib.Omega.{arith}
use borrow.Author.Tests.{le-leb}
use lib.ListN.{length}
use Rattle.book_words.specs.Layout.{held}
use Rattle.book.proofs.Headers.{count_room}
use Rattle.notice.specs.Lines.{lines_at}
use Rattle.notice.proofs.LinesAgain.{length_lines}
use Rattle.merge.proofs.MergedMost.{merged_most}
use Rattle.update.specs.NewBooks.{Contents}
use Rattle.update.proofs.NewBook.has_room.Goals as goal

pub overflow_mul-headed_count : goal.overflow_mul-headed_count
overflow_mul-headed_count c = omega (arith, (count_room c.self.inside.before.now).1, c.headed_count.ensures)

pub overflow_add-headed_count : goal.overflow_add-headed_count
overflow_add-headed_count c = omega (arith, (count_room c.self.inside.before.now).1, c.headed_count.ensures, c.self.invariant)

pub returns-then-headed_count-self : goal.returns-then-headed_count-self
returns-then-headed_count-self c =
    let b = c.self.inside in
    let h = b.header in
    let most = merged_most b.before.now b.closings.plan b.closings.marks.now (lines_at h.lines b.notice.now h.start) in
    let few = length_lines h.lines b.notice.now h.start in
    let count = length c.args.self.now.entries in
    sym (le-leb count (held c.args.len) (omega (
      arith,
      most,
      few,
      ap (λ (x : Contents). length x.entries) c.self.view_is,
      c.headed_count.ensures,
      c.if-headed_count-self.true,
      c.entries_held-most.ensures,
    )))
