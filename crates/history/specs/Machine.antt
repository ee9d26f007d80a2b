-- The plain machine, or history rule (document 01): its state is the notice period and the list of accepted notices.
use Rattle.std.specs.Prelude.{cond, List, [], ◌∷◌, ℕ, leb, ltb, length, Result, Ok, Err}
use Rattle.rate.specs.OfferWord.{word_of}
use Rattle.rate.specs.declared.Offer.TheVariants.{Closed}
use Rattle.notice.specs.NoticeRule.{Notice, read_notice}
use Rattle.book_words.specs.Layout.{header_words, held}
use Rattle.longest_match.specs.Match.{matched}
use Rattle.longest_match.specs.declared.Answer.{Answer}
use Rattle.history.specs.Effect.{Known, after_notice}
use Rattle.history.specs.ChangeDays.{change_days}
use Rattle.refusal.specs.Steps.{◌>>=◌}
use Rattle.refusal.specs.declared.Refusal.{Refusal}
use Rattle.refusal.specs.declared.Refusal.TheVariants.{BookFull, BookTooShort, ReceivedEarlier}

-- What no notice gives: every code closed on every day, latest effective day 0.
abbrev pub unknown : Known
unknown = record { status = λ k d. Closed; latest = 0 }

-- What accepted notices give, the last notice first. A code's status on a day comes from the last notice that lists or closes
-- it with an effective day not after that day, each notice's effective days worked from the notices before it.
unfoldable pub known : ℕ → List Notice → Known
known period [] = unknown
known period (n ∷ older) = after_notice period (known period older) n

-- The last received day.
abbrev pub last_received : List Notice → ℕ
last_received [] = 0
last_received (n ∷ older) = n.received

-- The offer words of what is known.
abbrev pub words : Known → ℕ → ℕ → ℕ
words k x d = word_of (k.status x d)

-- The answer to a number on a day.
abbrev pub answer_of : ℕ → List Notice → List ℕ → ℕ → Answer
answer_of period accepted ds day = matched (λ k. (known period accepted).status k day) ds

-- A notice that reads, as the machine judges it: 10, 30, else accepted.
unfoldable pub judged : ℕ → List Notice → Notice → ℕ → Result Notice Refusal
judged period accepted n len =
    cond (ltb n.received (last_received accepted)) (Err ReceivedEarlier)
    (cond (leb (length (change_days (words (known period (n ∷ accepted))))) (held len)) (Ok n) (Err BookFull))

-- What the machine answers to a notice's bytes and the new book's length: the notice that it accepts, or 20, the notice's own
-- refusals, 10, 30.
unfoldable pub answers : ℕ → List Notice → List ℕ → ℕ → Result Notice Refusal
answers period accepted bytes len =
    cond (ltb len header_words) (Err BookTooShort) do
      n ← read_notice bytes
      judged period accepted n len
