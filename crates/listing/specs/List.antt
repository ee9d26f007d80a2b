-- The standing list of a day (document 01, "Charging and writing"): a full notice received on that day, with each open or
-- blocked code, rates with 8 decimals, no listed days.
use Rattle.std.specs.Prelude.{◌≡◌, refl, cond, List, [], ◌∷◌, ◌++◌, ℕ, ◌+◌, ◌-◌, ◌*◌, eqb, leb, length, drop, replicate, Result, Ok, Err}
use Rattle.dial_code.specs.Key.{key}
use Rattle.allowed_code.specs.Code.{is_code_key}
use Rattle.calendar.specs.Time.{last_received_day, is_received_day}
use Rattle.rate.specs.Price.{rate}
use Rattle.rate.specs.OfferWord.{offer_of}
use Rattle.calendar.specs.declared.Day.{Day}
use Rattle.rate.specs.declared.Offer.{Offer}
use Rattle.rate.specs.declared.Offer.TheVariants.{Blocked, Open}
use Rattle.notice_line.specs.LineRule.{line_of}
use Rattle.notice_header.specs.declared.Kind.TheVariants.{Full}
use Rattle.notice.specs.NoticeRule.{Notice}
use Rattle.notice_writing.specs.Layout.{encode_notice}
use Rattle.notice_line.specs.declared.Line.{Line}
use Rattle.book_words.specs.Layout.{header_words, entry_words, most_period, entry, entries_of, book_of}
use Rattle.book.specs.Status.{offer_in}
use Rattle.longest_match.specs.Match.{is_standing}
use Rattle.book.specs.Answers.{check_book}
use Rattle.book_words.specs.declared.Entry.{Entry}
use Rattle.refusal.specs.Steps.{◌>>=◌}
use Rattle.refusal.specs.declared.Refusal.{Refusal}
use Rattle.refusal.specs.declared.Refusal.TheVariants.{BookNotSound, BookTooShort, BufferTooShort, NoOffer, TimeOutOfRange}

-- The keys of a book's codes in the order of its entries, each once: that of an entry whose successor has another or is none.
unfoldable pub codes_of : List Entry → List ℕ
codes_of [] = []
codes_of (e ∷ []) = e.key ∷ []
codes_of (e ∷ f ∷ es) = cond (eqb e.key f.key) (codes_of (f ∷ es)) (e.key ∷ codes_of (f ∷ es))

-- The line of a code with a status, which has no listed day: none where the status is closed.
abbrev pub code_line : ℕ → Offer → List Line
code_line k o = cond (is_standing o) (line_of k o 0 ∷ []) []

-- The lines of some codes, from the statuses of codes.
unfoldable pub lines_for : (ℕ → Offer) → List ℕ → List Line
lines_for status [] = []
lines_for status (k ∷ ks) = code_line k (status k) ++ lines_for status ks

-- A line for each code that is open or blocked on a day.
unfoldable pub standing_lines : List Entry → ℕ → List Line
unfolding codes_of lines_for offer_in
standing_lines es day = lines_for (λ k. offer_in es k day) (codes_of es)

-- The standing list as a notice.
unfoldable pub standing_notice : List Entry → ℕ → Notice
unfolding standing_lines
standing_notice es day = record { kind = Full; received = day; lines = standing_lines es day }

-- The bytes of a book's standing list.
unfoldable pub list_of : List ℕ → Day → List ℕ
unfolding standing_notice encode_notice entries_of
list_of ws day = encode_notice (standing_notice (entries_of ws) day.0)

-- Whether there is a list: 20, 21, 41, 43, in this order.
unfoldable pub check_list : List ℕ → Day → Result (Unit {0}) Refusal
unfolding check_book standing_lines entries_of
check_list ws day = do
  usable ← check_book ws
  cond (is_received_day day) (cond (eqb (length (standing_lines (entries_of ws) day.0)) 0) (Err NoOffer) (Ok tt)) (Err TimeOutOfRange)

-- The answer: the list's length, or a refusal, last of all 23.
unfoldable pub list_answer : List ℕ → Day → ℕ → Result ℕ Refusal
unfolding check_list list_of
list_answer ws day room = do
  there ← check_list ws day
  cond (leb (length (list_of ws day)) room) (Ok (length (list_of ws day))) (Err BufferTooShort)

-- The bytes that an answer leaves: those after the list are untouched, and a refused list changes none.
abbrev pub bytes_left : Result ℕ Refusal → List ℕ → List ℕ → List ℕ
bytes_left (Ok size) list out = list ++ drop size out
bytes_left (Err e) list out = out

unfoldable pub list_bytes : List ℕ → Day → List ℕ → List ℕ
unfolding list_answer
list_bytes ws day out = bytes_left (list_answer ws day (length out)) (list_of ws day) out

-- 1 open from day 100 on, 44 blocked from day 50 on, 7 open from day 10 to 89, 91 open from day 200 on
some : List ℕ
some =
    book_of (header_words + 5 * entry_words) 7 100 200
    (entry (key (1 ∷ [])) 100 589824000259
    ∷ entry (key (4 ∷ 4 ∷ [])) 50 1
    ∷ entry (key (7 ∷ [])) 10 259
    ∷ entry (key (7 ∷ [])) 90 0
    ∷ entry (key (9 ∷ 1 ∷ [])) 200 259
    ∷ [])

abbrev on : ℕ → Day
on n = record { 0 = n }

codes : codes_of (entries_of some) ≡ key (1 ∷ []) ∷ key (4 ∷ 4 ∷ []) ∷ key (7 ∷ []) ∷ key (9 ∷ 1 ∷ []) ∷ []
unfolding codes_of entries_of some book_of key
codes = refl

-- on day 100, and one day before 7 closes
lines_on :
    standing_lines (entries_of some) 100 ∷ standing_lines (entries_of some) 89 ∷ []
    ≡ (line_of (key (1 ∷ [])) (Open (rate 9000000) 1 1) 0 ∷ line_of (key (4 ∷ 4 ∷ [])) Blocked 0 ∷ [])
    ∷ (line_of (key (4 ∷ 4 ∷ [])) Blocked 0 ∷ line_of (key (7 ∷ [])) (Open (rate 0) 1 1) 0 ∷ [])
    ∷ []
unfolding standing_lines entries_of some book_of key offer_of
lines_on = refl

list_100 : List ℕ
list_100 = 1 ∷ 100 ∷ 2 ∷ 1 ∷ 1 ∷ 2 ∷ 8 ∷ 0xC0 ∷ 0xA8 ∷ 0xA5 ∷ 0x04 ∷ 1 ∷ 1 ∷ 0 ∷ 2 ∷ 44 ∷ 1 ∷ 0 ∷ []

sent : list_of some (on 100) ≡ list_100
unfolding list_of list_100 some book_of key offer_of
sent = refl

-- exact room and one byte short; nothing standing on day 9; the last day of a list and the day after
answers :
    list_answer some (on 100) 18
    ∷ list_answer some (on 100) 17
    ∷ list_answer some (on 9) 0
    ∷ list_answer some (on last_received_day) 28
    ∷ list_answer some (on (last_received_day + 1)) 28
    ∷ []
    ≡ Ok 18 ∷ Err BufferTooShort ∷ Err NoOffer ∷ Ok 28 ∷ Err TimeOutOfRange ∷ []
unfolding list_answer some book_of key is_code_key offer_of
answers = refl

-- a word short of a header, and a book that is not sound, before a day beyond the last; an empty book
refusals :
    list_answer (replicate (header_words - 1) 0) (on (last_received_day + 1)) 0
    ∷ list_answer (book_of header_words (most_period + 1) 0 0 []) (on (last_received_day + 1)) 0
    ∷ list_answer (book_of header_words 7 0 0 []) (on (last_received_day + 1)) 0
    ∷ list_answer (book_of header_words 7 0 0 []) (on last_received_day) 0
    ∷ []
    ≡ Err BookTooShort ∷ Err BookNotSound ∷ Err TimeOutOfRange ∷ Err NoOffer ∷ []
unfolding list_answer book_of offer_of
refusals = refl

-- two bytes more than the list, and one too few
left :
    list_bytes some (on 100) (replicate 20 9) ∷ list_bytes some (on 100) (replicate 17 9) ∷ []
    ≡ (list_100 ++ (9 ∷ 9 ∷ [])) ∷ replicate 17 9 ∷ []
unfolding list_bytes list_100 some book_of key is_code_key offer_of
left = refl
