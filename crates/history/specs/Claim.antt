-- Demand 3 as one claim over every list of applies from a fresh book.
use Rattle.std.specs.Prelude.{◌≡◌, true, List, [], ◌∷◌, map, ℕ, length, Result, Ok, Err}
use Rattle.dial_code.specs.Digits.{digit_of, is_dialled}
use Rattle.calendar.specs.Time.{is_day}
use Rattle.calendar.specs.declared.Day.{Day}
use Rattle.notice.specs.NoticeRule.{Notice}
use Rattle.book_words.specs.Layout.{entries_of}
use Rattle.lookup.specs.Lookup.{lookup}
use Rattle.refusal.specs.declared.Refusal.{Refusal}
use Rattle.history.specs.ChangeDays.{change_days}
use Rattle.history.specs.Machine.{known, words, answers, answer_of}
use Rattle.history.specs.Applying.{apply_notice, applied}

-- One apply: the notice's bytes, and the lent new book of any length and content.
pub record Apply : Type 0 where
  pub bytes : List ℕ
  pub new : List ℕ

-- The machine's accepted notices after an apply: an accepted notice is appended, a refused one is not.
abbrev pub with_notice : List Notice → Result Notice Refusal → List Notice
with_notice accepted (Ok n) = n ∷ accepted
with_notice accepted (Err e) = accepted

unfoldable pub accepts : ℕ → List Notice → Apply → List Notice
accepts period accepted a = with_notice accepted (answers period accepted a.bytes (length a.new))

-- What the machine answers to a list of applies, and the notices that it has accepted in the end.
unfoldable pub machine_answers : ℕ → List Notice → List Apply → List (Result Notice Refusal)
machine_answers period accepted [] = []
machine_answers period accepted (a ∷ later) =
    answers period accepted a.bytes (length a.new) ∷ machine_answers period (accepts period accepted a) later

unfoldable pub accepted_by : ℕ → List Notice → List Apply → List Notice
accepted_by period accepted [] = accepted
accepted_by period accepted (a ∷ later) = accepted_by period (accepts period accepted a) later

-- The current book after an apply: the new one where it was accepted, else the old one.
abbrev pub current_by : List ℕ → List ℕ → Result Notice Refusal → List ℕ
current_by old new (Ok n) = new
current_by old new (Err e) = old

unfoldable pub current : List ℕ → Apply → List ℕ
current ws a = current_by ws (applied ws a.bytes a.new) (apply_notice ws a.bytes (length a.new))

-- What the applies answer one by one, the notice that is accepted or the refusal, and the book left in the end.
unfoldable pub book_answers : List ℕ → List Apply → List (Result Notice Refusal)
book_answers ws [] = []
book_answers ws (a ∷ later) = apply_notice ws a.bytes (length a.new) ∷ book_answers (current ws a) later

unfoldable pub book_left : List ℕ → List Apply → List ℕ
book_left ws [] = ws
book_left ws (a ∷ later) = book_left (current ws a) later

-- A book that answers a list of applies as the machine does from some accepted notices on, and is left with its offers: each
-- apply gives the machine's answer, the same notice accepted or the same refusal; the entries left are the machine's change days
-- in order; and every lookup gives the machine's offer and key.
pub record Alike (ws : List ℕ) (period : ℕ) (accepted : List Notice) (all : List Apply) : Type 0 where
  pub refusals : book_answers ws all ≡ machine_answers period accepted all
  pub entries : entries_of (book_left ws all) ≡ change_days (words (known period (accepted_by period accepted all)))
  pub lookups :
      (number : List ℕ) (day : Day)
      → is_dialled number ≡ true
      → is_day day ≡ true
      → lookup (book_left ws all) number day ≡ Ok (answer_of period (accepted_by period accepted all) (map digit_of number) day.0)
