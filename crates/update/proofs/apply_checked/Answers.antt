-- `update::apply_checked` meets its contract: 10, 30, or the new book. Assumes nothing.
use mathlib.Core.Path.{◌≡◌, refl, ap, ap₂, ◌∙◌}
use Prim.Native.Nat.{◌≤◌}
use native.Mathlib.Omega.{arith}
use Rattle.book_words.specs.Layout.{period_of, received_of, latest_of}
use Rattle.book_words.specs.declared.Header.{Header}
use Rattle.book.proofs.Headers.{sound_book}
use Rattle.country_marks.specs.Marks.{marks_for}
use Rattle.update.specs.Plans.{plan_of}
use Rattle.update.proofs.Answering.{ready, refuses_earlier, refuses_full, fill_room, accepts}
use Rattle.slice_laws.proofs.Clauses.{both}
use Rattle.std.proofs.Common.{Some}
use Rattle.update.proofs.apply_checked.Goals.{After-plan_of, Else-m-header}
use Rattle.update.proofs.apply_checked.Goals as goal

-- the notice is not received too early
in_time : (c : Else-m-header) → let a = c.args in received_of a.old.now ≤ a.m.header.received
in_time c = omega (arith, c.if-m-header.false, ap (λ (h : Header). h.received) c.header_of-header.ensures)

-- the plan is that of the header's period and latest day
planned : (c : After-plan_of) →
    let a = c.args in
    c.plan_of.result ≡ plan_of a.m (period_of a.old.now) (latest_of a.old.now)
planned c =
    let h = c.header_of-header.ensures in
    c.plan_of.ensures
    ∙ ap₂ (plan_of c.args.m) (ap (λ (x : Header). x.period) h) (ap (λ (x : Header). x.latest) h)

pub returns-then-m-header : goal.returns-then-m-header
returns-then-m-header c =
    let p = c.requires in
    let h = ap (λ (x : Header). x.received) c.header_of-header.ensures in both (refuses_earlier _ _ _ _ p.0 p.1 p.2 refl (omega (arith, c.if-m-header.true, h)))

pub plan_of-requires : goal.plan_of-requires
plan_of-requires c =
    let p = c.requires in
    let h = ap (λ (x : Header). x.period) c.header_of-header.ensures in
    ((ready _ _ p.2).received_most, omega (arith, h, (sound_book _ p.0).header.period_most))

pub invariant_of-book : goal.invariant_of-book
invariant_of-book c = (ready _ _ c.requires.2).lines_most

pub returns-then-not-has_room : goal.returns-then-not-has_room
returns-then-not-has_room c =
    let a = c.args in
    let p = c.requires in both (refuses_full a.old.now a.notice.now a.m a.new.now p.0 p.1 p.2 (in_time (goal.at.returns-then-not-has_room c).Else-m-header) (planned (goal.at.returns-then-not-has_room c).After-plan_of)
    (c.mark_countries.ensures ∙ ap (marks_for (Some a.m.header.kind)) c.of.ensures) c.has_room.ensures refl
    (c.if-not-has_room.true))

pub fill-done-requires : goal.fill-done-requires
fill-done-requires c =
    let a = c.args in
    let p = c.requires in
    fill_room a.old.now a.notice.now a.m a.new.now p.0 p.1 p.2 (in_time (goal.at.fill-done-requires c).Else-m-header) (planned (goal.at.fill-done-requires c).After-plan_of)
    (c.mark_countries.ensures ∙ ap (marks_for (Some a.m.header.kind)) c.of.ensures) c.has_room.ensures
    (c.if-not-has_room.false)

pub returns : goal.returns
returns c =
    let a = c.args in
    let p = c.requires in
    let f = c.fill-done.ensures in both (accepts a.old.now a.notice.now a.m a.new.now p.0 p.1 p.2 (in_time (goal.at.returns c).Else-m-header) (planned (goal.at.returns c).After-plan_of)
    (c.mark_countries.ensures ∙ ap (marks_for (Some a.m.header.kind)) c.of.ensures) c.has_room.ensures
    (c.if-not-has_room.false) f.value.0 f.value.1 f.after)
