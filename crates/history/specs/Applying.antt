-- What applying a notice to a book answers and leaves (document 01, "The book"; the order of "Who can cause a refusal").
use Rattle.std.specs.Prelude.{cond, List, ℕ, leb, ltb, length, Result, Ok, Err}
use Rattle.notice.specs.NoticeRule.{Notice, read_notice}
use Rattle.book_words.specs.Layout.{header_words, period_of, received_of, latest_of, held, entries_of, book_of}
use Rattle.book.specs.Status.{offer_in}
use Rattle.book.specs.Answers.{check_book}
use Rattle.book_words.specs.declared.Entry.{Entry}
use Rattle.history.specs.Effect.{Known, after_notice}
use Rattle.history.specs.ChangeDays.{change_days}
use Rattle.history.specs.Machine.{words}
use Rattle.history.specs.declared.Applied.{Applied}
use Rattle.refusal.specs.Steps.{◌>>=◌}
use Rattle.refusal.specs.declared.Refusal.{Refusal}
use Rattle.refusal.specs.declared.Refusal.TheVariants.{BookFull, BookTooShort, ReceivedEarlier}

-- What a book gives: its statuses, and its header's latest effective day as it stands.
abbrev pub in_book : List ℕ → Known
in_book ws = record { status = offer_in (entries_of ws); latest = latest_of ws }

-- What is known after a notice is applied to a book, and the entries of the book that holds it: the change days.
abbrev pub after_book : List ℕ → Notice → Known
after_book ws n = after_notice (period_of ws) (in_book ws) n

unfoldable pub new_entries : List ℕ → Notice → List Entry
new_entries ws n = change_days (words (after_book ws n))

-- A notice that reads, against the book and the new book's length: 10, 30, else accepted.
unfoldable pub judged_by : List ℕ → Notice → ℕ → Result Notice Refusal
judged_by ws n len =
    cond (ltb n.received (received_of ws)) (Err ReceivedEarlier)
    (cond (leb (length (new_entries ws n)) (held len)) (Ok n) (Err BookFull))

-- The notice that an apply accepts, or what refuses it: 20 and 21 for the old book, 20 for the new, the notice's own refusals, 10, 30.
unfoldable pub apply_notice : List ℕ → List ℕ → ℕ → Result Notice Refusal
apply_notice ws bytes len = do
  _ ← check_book ws
  cond (ltb len header_words) (Err BookTooShort) do
    n ← read_notice bytes
    judged_by ws n len

-- The new book's words.
abbrev pub new_book : List ℕ → ℕ → Notice → List ℕ
new_book ws len n = book_of len (period_of ws) n.received (after_book ws n).latest (new_entries ws n)

-- The words that an apply leaves in the new book: a refused one changes none.
abbrev pub written_book : List ℕ → List ℕ → Result Notice Refusal → List ℕ
written_book ws new (Ok n) = new_book ws (length new) n
written_book ws new (Err e) = new

unfoldable pub applied : List ℕ → List ℕ → List ℕ → List ℕ
applied ws bytes new = written_book ws new (apply_notice ws bytes (length new))

-- What an apply answers: the new book's entries, last received day and latest effective day, or what refuses it.
abbrev pub accepted_answer : List ℕ → Notice → Applied
accepted_answer ws n =
    record { entries = length (new_entries ws n); received = n.received; latest = (after_book ws n).latest }

unfoldable pub apply_answer : List ℕ → List ℕ → ℕ → Result Applied Refusal
apply_answer ws bytes len = do
  n ← apply_notice ws bytes len
  Ok (accepted_answer ws n)
