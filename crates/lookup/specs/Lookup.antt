-- The answer to a number on a day (document 01, "The book"; the order of "Who can cause a refusal").
use Rattle.std.specs.Prelude.{cond, List, map, ℕ, Result, Ok, Err}
use Rattle.dial_code.specs.Digits.{digit_of, is_dialled}
use Rattle.calendar.specs.Time.{is_day}
use Rattle.calendar.specs.declared.Day.{Day}
use Rattle.book_words.specs.Layout.{entries_of}
use Rattle.book.specs.Status.{offer_in}
use Rattle.book.specs.Answers.{check_book}
use Rattle.longest_match.specs.Match.{matched}
use Rattle.longest_match.specs.declared.Answer.{Answer}
use Rattle.refusal.specs.declared.Refusal.TheVariants.{NotANumber, TimeOutOfRange}
use Rattle.refusal.specs.declared.Refusal.{Refusal}
use Rattle.refusal.specs.Steps.{◌>>=◌}

-- The answer to a number on a day: 20, 21, 40, 41, else the offer by longest match.
unfoldable pub lookup : List ℕ → List ℕ → Day → Result Answer Refusal
unfolding check_book is_dialled matched offer_in entries_of
lookup ws number day = do
  usable ← check_book ws
  cond (is_dialled number)
      (cond (is_day day) (Ok (matched (λ k. offer_in (entries_of ws) k day.0) (map digit_of number))) (Err TimeOutOfRange))
      (Err NotANumber)
