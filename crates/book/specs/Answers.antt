-- What the calls on a book answer and leave (document 01, "Who can cause a refusal": the orders).
use Rattle.std.specs.Prelude.{◌≡◌, refl, cond, List, [], ◌∷◌, ◌++◌, ℕ, ◌+◌, ◌-◌, leb, ltb, length, replicate, Result, Ok, Err, is_ok}
use Rattle.book_words.specs.Layout.{header_words, most_period, header, words_of_header, book_of}
use Rattle.book.specs.Soundness.{sound}
use Rattle.refusal.specs.declared.Refusal.TheVariants.{BookNotSound, BookTooShort, PeriodTooLong}
use Rattle.refusal.specs.declared.Refusal.{Refusal}

-- A fresh book: 22, then 20; a book of no entries.
unfoldable pub fresh_answer : ℕ → ℕ → Result (Unit {0}) Refusal
fresh_answer len period = cond (leb period most_period) (cond (ltb len header_words) (Err BookTooShort) (Ok tt)) (Err PeriodTooLong)

unfoldable pub fresh_book : ℕ → ℕ → List ℕ
unfolding book_of
fresh_book len period = book_of len period 0 0 []

-- The words that a fresh book leaves: a refused call changes none.
unfoldable pub fresh_words : List ℕ → ℕ → List ℕ
unfolding fresh_answer fresh_book
fresh_words ws period = cond (is_ok (fresh_answer (length ws) period)) (fresh_book (length ws) period) ws

-- Whether a book can be used: 20, then 21.
unfoldable pub check_book : List ℕ → Result (Unit {0}) Refusal
unfolding sound
check_book ws = cond (ltb (length ws) header_words) (Err BookTooShort) (cond (sound ws) (Ok tt) (Err BookNotSound))

fresh :
    fresh_answer header_words most_period
    ∷ fresh_answer (header_words - 1) most_period
    ∷ fresh_answer (header_words - 1) (most_period + 1)
    ∷ fresh_answer header_words (most_period + 1)
    ∷ []
    ≡ Ok tt ∷ Err BookTooShort ∷ Err PeriodTooLong ∷ Err PeriodTooLong ∷ []
unfolding fresh_answer
fresh = refl

fresh_words_law :
    fresh_words (replicate (header_words + 1) 9) 7 ∷ fresh_words (replicate (header_words - 1) 9) 7 ∷ []
    ≡ (words_of_header (header 0 7 0 0) ++ (0 ∷ [])) ∷ replicate (header_words - 1) 9 ∷ []
unfolding fresh_words
fresh_words_law = refl
