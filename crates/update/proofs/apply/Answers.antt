-- `update::apply` meets its contract: a notice that the check refuses. Assumes nothing.
use Rattle.std.proofs.Common.{rules, ◌≡◌, sym, ◌∙◌, Ok, Err, length}
use Rattle.notice.specs.NoticeRule.{check_notice}
use Rattle.book.specs.Answers.{check_book}
use Rattle.update.proofs.Answering.{refuses_notice}
use Rattle.update.proofs.apply.Goals as goal

pub returns-in_err-m-clause-value : goal.returns-in_err-m-clause-value
returns-in_err-m-clause-value c =
    let a = c.args in
    let e = c.in_err-m.field-0.0 in
    let answers : c.from_residual-in_err-m.result ≡ Err e = search rules in
    let usable : check_book a.old.now ≡ Ok tt = search rules in
    let refused : check_notice a.notice.now ≡ Err e = search rules in
    answers ∙ sym (refuses_notice a.old.now a.notice.now (length a.new.now) e usable c.if-new-lt-HEADER_WORDS.false refused)
