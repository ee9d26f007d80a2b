-- How many words a host lends for a book, and the days and moments that it gives as numbers.
use Rattle.std.specs.Prelude.{◌≡◌, refl, [], ◌∷◌, ℕ, ◌+◌, ◌*◌, min}
use Rattle.calendar.specs.declared.Day.{Day}
use Rattle.calendar.specs.declared.Moment.{Moment}
use Rattle.book_words.specs.Layout.{header_words, entry_words, most_entries, held}

abbrev pub day : ℕ → Day
day n = record { 0 = n }

abbrev pub moment : ℕ → Moment
moment n = record { 0 = n }

-- How many words a book of so many entries has; more entries than a book holds ask for no more words.
unfoldable pub words_for : ℕ → ℕ
words_for n = header_words + min n most_entries * entry_words

-- no entries, one, the most, and more; such a book holds them
words :
    words_for 0 ∷ words_for 1 ∷ words_for most_entries ∷ words_for (most_entries + 1) ∷ []
    ≡ 4 ∷ 7 ∷ 196609 ∷ 196609 ∷ []
unfolding words_for
words = refl

enough : held (words_for 0) ∷ held (words_for 1) ∷ held (words_for most_entries) ∷ [] ≡ 0 ∷ 1 ∷ most_entries ∷ []
unfolding words_for held
enough = refl
