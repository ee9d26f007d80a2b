-- What an apply answers and leaves, by the tests of the code. Assumes nothing.
use mathlib.Core.Path.{◌≡◌, refl, ap, sym, ◌∙◌}
use mathlib.Core.Bool.{Bool, true, false}
use mathlib.Core.List.{List}
use Prim.Native.Nat.{ℕ, ◌+◌, ◌*◌, ◌≤◌, ◌<◌}
use native.Mathlib.Omega.{arith}
use borrow.Author.Tests.{lt-ltb, le-ltb, leb-true}
use lib.Dec.{leb}
use lib.ListN.{length}
use Rattle.notice_header.specs.HeaderRule.{kind_country, most_lines}
use Rattle.notice.specs.NoticeRule.{Notice, read_notice, check_notice}
use Rattle.notice.specs.declared.Summary.{Summary}
use Rattle.notice.proofs.Checking.{Passed, check_passed, check_refused}
use Rattle.notice.proofs.NoticeLaws.{notice_valid}
use Rattle.calendar.specs.Time.{last_received_day}
use Rattle.book_words.specs.Layout.{header_words, entry_words, period_of, received_of, latest_of, held, book_of}
use Rattle.book.specs.Soundness.{sound}
use Rattle.book.specs.Answers.{check_book}
use Rattle.book_words.specs.declared.Entry.{Entry}
use Rattle.book_words.proofs.BookWords.{held_fits}
use Rattle.book.proofs.Headers.{sound_book}
use Rattle.book.proofs.Usable.{usable_book}
use Rattle.history.specs.Applying.{after_book, new_entries, judged_by, apply_notice, apply_answer, applied}
use Rattle.history.specs.declared.Applied.{Applied}
use Rattle.update.specs.Plans.{plan_of}
use Rattle.country_marks.specs.Marks.{marks_for}
use Rattle.effect.specs.Lines.{found_in, latest_by}
use Rattle.effect.specs.declared.Plan.{Plan}
use Rattle.notice.specs.Lines.{lines_at}
use Rattle.merge.specs.Merge.{merged_by}
use Rattle.notice.proofs.LinesAgain.{lines_again}
use Rattle.update.proofs.NewEntries.{new_facts}
use Rattle.refusal.specs.declared.Refusal.TheVariants.{BookFull, BookTooShort, ReceivedEarlier}
use Rattle.std.proofs.Common.{Some, None, Result, Ok, Err}
use Rattle.refusal.specs.declared.Refusal.{Refusal}

-- A refused apply answers its refusal, and leaves every word as it was.
pub refuses : (ws s new : List ℕ) (e : Refusal) {r : Result Applied Refusal} → r ≡ Err e → apply_notice ws s (length new) ≡ Err e
    → (r ≡ apply_answer ws s (length new)) × (new ≡ applied ws s new)
unfolding apply_answer applied
refuses ws s new e q f = (q ∙ rw f, rw f)

-- The refusals that come before the notice is judged.
pub no_old : (ws s : List ℕ) (len : ℕ) {e : Refusal} → check_book ws ≡ Err e → apply_notice ws s len ≡ Err e
unfolding apply_notice
no_old ws s len b = rw b

module _ (ws s : List ℕ) (len : ℕ) (b : check_book ws ≡ Ok tt) where
  pub no_new : len < header_words → apply_notice ws s len ≡ Err BookTooShort
  unfolding apply_notice
  no_new h = rw (b, lt-ltb len header_words h)

  pub no_notice : header_words ≤ len → {e : Refusal} → read_notice s ≡ Err e → apply_notice ws s len ≡ Err e
  unfolding apply_notice
  no_notice h r = rw (b, le-ltb len header_words h, r)

-- A notice that the check refuses, with its refusal; it leaves every word as it was.
pub refuses_notice :
    (ws s : List ℕ) (len : ℕ) (e : Refusal)
    → check_book ws ≡ Ok tt
    → header_words ≤ len
    → check_notice s ≡ Err e
    → apply_answer ws s len ≡ Err e
unfolding apply_answer apply_notice
refuses_notice ws s len e b h k = rw (b, le-ltb len header_words h, check_refused s e k)

pub refuses_leaves :
    (ws s new : List ℕ) (e : Refusal)
    → check_book ws ≡ Ok tt
    → header_words ≤ length new
    → check_notice s ≡ Err e
    → new ≡ applied ws s new
refuses_leaves ws s new e b h k = (refuses ws s new e refl (no_notice ws s (length new) b h (check_refused s e k))).1

-- A notice that is read, against a book that can be used.
judged :
    (ws s : List ℕ) (len : ℕ)
    → check_book ws ≡ Ok tt
    → header_words ≤ len
    → {n : Notice} → read_notice s ≡ Ok n → apply_notice ws s len ≡ judged_by ws n len
unfolding apply_notice
judged ws s len b h r = rw (b, le-ltb len header_words h, r)

-- What a checked notice tells: its lines, and the bounds on its received day and their number.
pub record Ready (s : List ℕ) (m : Summary) : Type 0 where
  pub passed : Passed s m
  pub sends : lines_at m.header.lines s m.header.start ≡ passed.sent.lines
  pub received_most : m.header.received ≤ last_received_day
  pub lines_most : m.header.lines ≤ most_lines

pub ready : (s : List ℕ) (m : Summary) → check_notice s ≡ Ok m → Ready s m
ready s m k =
    let p = check_passed s m k in
    let v = notice_valid s p.sent p.read in
    record {
      passed = p;
      sends = lines_again m.header.lines (kind_country m.header.kind) None s m.header.start p.sent.lines p.on;
      received_most = omega (arith, p.received, v.received_most);
      lines_most = omega (arith, p.count, v.few_lines);
    }

-- A checked notice against a sound book: 10, 30, or the new book.
module _
    (ws s : List ℕ) (m : Summary) (new : List ℕ) (o : sound ws ≡ true) (h : header_words ≤ length new)
    (k : check_notice s ≡ Ok m) where
  by_judge : apply_notice ws s (length new) ≡ judged_by ws (ready s m k).passed.sent (length new)
  by_judge = judged ws s (length new) (usable_book ws (sound_book ws o).long o) h (ready s m k).passed.read

  pub refuses_earlier : {r : Result Applied Refusal} → r ≡ Err ReceivedEarlier → m.header.received < received_of ws
      → (r ≡ apply_answer ws s (length new)) × (new ≡ applied ws s new)
  unfolding judged_by
  refuses_earlier q l =
      let p = (ready s m k).passed in
      refuses ws s new ReceivedEarlier q
      (by_judge ∙ rw (lt-ltb p.sent.received (received_of ws) (omega (arith, p.received))))

  module _
      (l : received_of ws ≤ m.header.received) {p : Plan} (a : p ≡ plan_of m (period_of ws) (latest_of ws))
      {marks : List ℕ} (b : marks ≡ marks_for (Some m.header.kind) (lines_at m.header.lines s m.header.start)) where
    -- the merge's entries and latest day are those of the rules
    pub merges : merged_by ws p marks (lines_at m.header.lines s m.header.start) ≡ new_entries ws (ready s m k).passed.sent
    merges =
        let y = ready s m k in
        rw (a, b, y.sends) (new_facts ws s m o y.passed).0

    pub dates : latest_by p (found_in ws) (latest_of ws) (lines_at m.header.lines s m.header.start) ≡ (after_book ws (ready s m k).passed.sent).latest
    dates =
        let y = ready s m k in
        rw (a, y.sends) (new_facts ws s m o y.passed).1

    -- `fits` is whether the new book can hold the entries
    module _
        {fits : Bool} (t : fits ≡ leb (length (merged_by ws p marks (lines_at m.header.lines s m.header.start))) (held (length new))) where
      tests : leb (length (new_entries ws (ready s m k).passed.sent)) (held (length new)) ≡ fits
      tests = ap (λ (es : List Entry). leb (length es) (held (length new))) (sym merges) ∙ sym t

      pub refuses_full : {r : Result Applied Refusal} → r ≡ Err BookFull → fits ≡ false
          → (r ≡ apply_answer ws s (length new)) × (new ≡ applied ws s new)
      unfolding judged_by
      refuses_full u f =
          let y = (ready s m k).passed in
          refuses ws s new BookFull u
          (by_judge ∙ rw (le-ltb y.sent.received (received_of ws) (omega (arith, y.received)), tests ∙ f))

      pub fill_room : fits ≡ true → header_words + length (merged_by ws p marks (lines_at m.header.lines s m.header.start)) * entry_words ≤ length new
      fill_room f =
          let count = length (merged_by ws p marks (lines_at m.header.lines s m.header.start)) in
          omega (arith, (held_fits count (length new) h (leb-true count (held (length new)) (sym t ∙ f))).1)

      pub accepts : fits ≡ true → {count : ℕ} → count ≡ length (merged_by ws p marks (lines_at m.header.lines s m.header.start))
          → {latest : ℕ} → latest ≡ latest_by p (found_in ws) (latest_of ws) (lines_at m.header.lines s m.header.start)
          → {next : List ℕ}
          → next
          ≡ book_of (length new) (period_of ws) m.header.received (latest_by p (found_in ws) (latest_of ws) (lines_at m.header.lines s m.header.start))
          (merged_by ws p marks (lines_at m.header.lines s m.header.start))
          → (Ok (record { entries = count; received = m.header.received; latest = latest }) ≡ apply_answer ws s (length new))
          × (next ≡ applied ws s new)
      unfolding judged_by apply_answer applied
      accepts f e d n =
          let y = (ready s m k).passed in
          let accepted : apply_notice ws s (length new) ≡ Ok y.sent =
          by_judge ∙ rw (le-ltb y.sent.received (received_of ws) (omega (arith, y.received)), tests ∙ f) in (
            rw (accepted, d ∙ dates, e ∙ ap length merges, y.received),
            n ∙ rw (merges, dates, accepted, y.received),
          )
