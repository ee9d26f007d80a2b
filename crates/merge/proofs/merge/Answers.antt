-- `merge::merge` meets its contract: a line more is merged, and after the last the entries that are left.
use Rattle.std.proofs.Common.{◌≡◌, ◌∙◌, length, ap, arith}
use Rattle.book_words.specs.declared.Header.{Header}
use Rattle.book_words.specs.Layout.{header_words}
use Rattle.book_words.proofs.Rows.{length_rows}
use Rattle.book.specs.Soundness.{headed_count}
use Rattle.book.proofs.Headers.{count_room}
use Rattle.closing.specs.Closings.{closes_by}
use Rattle.merge_rule.proofs.MergedLength.{line_length}
use Rattle.notice.proofs.LinesAgain.{length_lines}
use Rattle.merge.specs.Merge.{merged_answer, merged_leaves, sent}
use Rattle.merge.proofs.Merging.{merge_starts, merge_next, merge_dated, merge_counted, merge_written}
use Rattle.merge.proofs.merge.Goals.{After-into_iter-line-iterator}
use Rattle.merge.proofs.merge.Goals as goal

-- the lines that are merged
lines : (c : After-into_iter-line-iterator) → c.into_iter-line-iterator.result ≡ sent c.args.notice.now c.args.start c.args.lines
lines c = rw (c.into_iter-line-iterator.ensures.into_iter_gives, c.of-line-items.ensures, c.min.ensures)

pub loop-line-init : goal.loop-line-init
loop-line-init c =
    let old = c.args.old.now in
    let few = length_lines c.min.result c.args.notice.now c.args.start in
    record {
      few = omega (
        arith,
        (count_room old).1,
        ap length c.entries.ensures,
        length_rows old header_words (headed_count old),
        c.min.ensures,
        few,
        ap length (c.into_iter-line-iterator.ensures.into_iter_gives ∙ c.of-line-items.ensures),
      );
      merging = merge_starts _ _ _ _ _ c.entries.ensures (ap (λ (x : Header). x.latest) c.header_of-latest.ensures);
    }

pub loop-line-preserved : goal.loop-line-preserved
loop-line-preserved c =
    let notice = c.args.closings.now in
    let i = c.loop-line.invariant in
    let next = c.in-Some.ensures.steps in
    let p = c.pass_line-place.ensures in
    let more = line_length c.change_of-change.result (closes_by notice.plan notice.marks.now) notice.plan.closing c.loop-line.place.rest in
    record {
      few = omega (arith, p.count, ap length p.rest, more, i.few, ap length next);
      merging = merge_next i.merging next c.change_of-change.ensures c.max-latest.ensures p.rest p.count p.after;
    }

pub returns : goal.returns
unfolding merged_answer merged_leaves
returns c =
    let i = c.loop-line.invariant.merging in
    let none = c.in-None.ensures.steps.0 in
    let p = c.pass_unlisted-to.ensures in
    let all = lines (goal.at.returns c).After-into_iter-line-iterator in
    record {
      value = rw (merge_counted i none p.count p.after, merge_dated i none, all);
      after = rw (← all) (merge_written i none p.count p.after);
    }
