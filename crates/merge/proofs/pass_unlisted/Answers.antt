-- `merge::pass_unlisted` meets its contract: an entry more is passed. Assumes nothing.
use lib.ListN.{length-append}
use Rattle.std.proofs.Common.{rules, ◌≡◌, ◌∷◌, length, refl, ap, sym, ◌∙◌, arith}
use Rattle.book_words.specs.Layout.{put_entries}
use Rattle.book_words.proofs.Stores.{puts_on}
use Rattle.closing.specs.Closings.{closes_by}
use Rattle.closing.proofs.ClosingLaws.{ClosedAlike, range_alike, range_closed}
use Rattle.merge_rule.specs.Passes.{unlisted_as, gap_below}
use Rattle.merge.proofs.PassLaws.{gap_on, rest_on, at_most_two}
use Rattle.merge.proofs.pass_unlisted.Goals.{Joined-not-is_within, then-not-is_within, else-not-is_within}
use Rattle.merge.proofs.pass_unlisted.Goals as goal

-- what is remembered of codes closed alike, and whether the entry's is closed
known : (c : Joined-not-is_within) →
    let notice = c.args.closings.now in
    ClosedAlike notice.plan notice.marks.now c.if-not-is_within.alike
    × (c.if-not-is_within.alike.closed ≡ closes_by notice.plan notice.marks.now c.in-Some.e.key)
known c =
    let notice = c.args.closings.now in
    elim c.if-not-is_within.branch [
      | then-not-is_within v ↦ rw (v.alike-is ∙ v.closed_range-alike.ensures) (range_alike notice.plan notice.marks.now _, range_closed notice.plan notice.marks.now _)
      | else-not-is_within v ↦
          rw v.alike-is (c.loop-e.invariant.4, c.loop-e.invariant.4 c.in-Some.e.key (sym c.is_within.ensures ∙ v.if-not-is_within.false))
    ]

pub loop-e-preserved : goal.loop-e-preserved
loop-e-preserved c =
    let below = c.args.below in
    let notice = c.args.closings.now in
    let l = c.loop-e in
    let es = c.next.new.self in
    let next : l.rest ≡ c.in-Some.e ∷ es = search rules in
    let k = known (goal.at.loop-e-preserved c).Joined-not-is_within in
    let gap = gap_on below (closes_by notice.plan notice.marks.now) notice.plan.closing _ _ next c.if-below-e.false k.1 in
    let put = c.put_unlisted-count.ensures in
    let xs = unlisted_as c.if-not-is_within.alike.closed notice.plan.closing c.in-Some.e es in
    let ys = gap_below below (closes_by notice.plan notice.marks.now) notice.plan.closing es in (
      omega (arith, l.invariant.0, put.value, ap length next, at_most_two notice.plan.closing c.in-Some.e es c.if-not-is_within.alike.closed),
      omega (arith, l.invariant.1, put.value, ap length gap, length-append xs ys),
      puts_on l.new l.count c.put_unlisted-count.result xs ys put.value put.after refl ∙ ap (put_entries l.new l.count) (sym gap) ∙ l.invariant.2,
      sym (rest_on below _ _ next c.if-below-e.false) ∙ l.invariant.3,
      k.0,
    )
