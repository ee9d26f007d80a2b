-- `update::NewBook::fill` meets its contract: entries, zeros and header come to the new book. Assumes nothing.
use Rattle.std.proofs.Common.{◌≡◌, ap, ◌∙◌, arith}
use Rattle.book_words.specs.declared.Header.{Header}
use Rattle.book_words.proofs.NewBook.{book_made}
use Rattle.book_words.proofs.Places.{puts_all}
use Rattle.update.specs.NewBooks.{Contents}
use Rattle.update.proofs.NewBook.fill.Goals as goal

pub returns-clause-after : goal.returns-clause-after
returns-clause-after c =
    let b = c.args.self.now in
    let new = c.args.new.now in
    let done = c.merge-done.ensures in
    let stored = done.after ∙ puts_all new 0 b.entries (omega (arith, c.requires)) in
    let period : c.header_of.result.period ≡ b.period = ap (λ (h : Header). h.period) c.header_of.ensures ∙ ap (λ (x : Contents). x.period) c.self.view_is in
    let received : c.self.inside.header.received ≡ b.received = ap (λ (x : Contents). x.received) c.self.view_is in
    book_made new b.entries _ _ _ c.requires done.value.0 stored c.clear.ensures (rw (period, received, done.value.1) at c.write_header.ensures)
