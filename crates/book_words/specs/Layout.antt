-- The book's words (document 01, "The book"): entry count, notice period, last received day, latest effective day, then three
-- words an entry: key, day, offer word. Unused words are 0.
use Rattle.std.specs.Prelude.{◌≡◌, refl, cond, List, [], ◌∷◌, ◌++◌, ℕ, zero, suc, ◌+◌, ◌-◌, ◌*◌, ◌/◌, min, leb, length, get_or, replicate}
use Rattle.std.proofs.lemmas.List.Edits.{sets}
use Rattle.book_words.specs.declared.Entry.{Entry}
use Rattle.book_words.specs.declared.Header.{Header}

-- words before the entries, words an entry, and the most entries a book holds
abbrev pub header_words : ℕ
header_words = 4

abbrev pub entry_words : ℕ
entry_words = 3

abbrev pub most_entries : ℕ
most_entries = 65535

abbrev pub most_period : ℕ
most_period = 365

-- The header words.
abbrev pub count_of : List ℕ → ℕ
count_of ws = get_or ws 0 0

abbrev pub period_of : List ℕ → ℕ
period_of ws = get_or ws 1 0

abbrev pub received_of : List ℕ → ℕ
received_of ws = get_or ws 2 0

abbrev pub latest_of : List ℕ → ℕ
latest_of ws = get_or ws 3 0

abbrev pub header : ℕ → ℕ → ℕ → ℕ → Header
header count period received latest = record { count = count; period = period; received = received; latest = latest }

abbrev pub header_of : List ℕ → Header
header_of ws = header (count_of ws) (period_of ws) (received_of ws) (latest_of ws)

abbrev pub words_of_header : Header → List ℕ
words_of_header h = h.count ∷ h.period ∷ h.received ∷ h.latest ∷ []

abbrev pub entry : ℕ → ℕ → ℕ → Entry
entry k d o = record { key = k; day = d; offer = o }

-- what stands for an entry where there is none
abbrev pub no_entry : Entry
no_entry = entry 0 0 0

-- the entry of three words
abbrev pub row_entry : List ℕ → Entry
row_entry row = entry (get_or row 0 0) (get_or row 1 0) (get_or row 2 0)

-- The entry that starts at a word, and so many of them one after the other.
unfoldable pub entry_at : List ℕ → ℕ → Entry
entry_at ws at = entry (get_or ws at 0) (get_or ws (at + 1) 0) (get_or ws (at + 2) 0)

unfoldable pub entries_from : List ℕ → ℕ → ℕ → List Entry
unfolding entry_at
entries_from ws at zero = []
entries_from ws at (suc n) = entry_at ws at ∷ entries_from ws (at + entry_words) n

-- The entries of a book.
unfoldable pub entries_of : List ℕ → List Entry
unfolding entries_from
entries_of ws = entries_from ws header_words (count_of ws)

-- Entries held: how many entries a book of so many words can hold.
unfoldable pub held : ℕ → ℕ
held len = min most_entries ((len - header_words) / entry_words)

-- The words of some entries, and a whole book of so many words: header, entries, zeros.
unfoldable pub words_of : List Entry → List ℕ
words_of [] = []
words_of (e ∷ es) = e.key ∷ e.day ∷ e.offer ∷ words_of es

unfoldable pub book_of : ℕ → ℕ → ℕ → ℕ → List Entry → List ℕ
unfolding words_of
book_of len period received latest es =
    words_of_header (header (length es) period received latest)
    ++ (words_of es ++ replicate (len - (header_words + length es * entry_words)) 0)

-- Words with an entry written at a place, where there are words for all of it; and with several, after the first n.
unfoldable pub put_entry : List ℕ → ℕ → Entry → List ℕ
unfolding words_of
put_entry ws at e = cond (leb (at + entry_words) (length ws)) (sets ws at (words_of (e ∷ []))) ws

unfoldable pub put_entries : List ℕ → ℕ → List Entry → List ℕ
unfolding put_entry
put_entries ws n [] = ws
put_entries ws n (e ∷ es) = put_entries (put_entry ws (header_words + n * entry_words) e) (n + 1) es

-- no words, one word short of an entry, one entry exactly, two words over; the most entries, exactly and with words over
holds : held 0 ∷ held 6 ∷ held 7 ∷ held 9 ∷ held 196609 ∷ held 1000000 ∷ [] ≡ 0 ∷ 0 ∷ 1 ∷ 1 ∷ 65535 ∷ 65535 ∷ []
unfolding held
holds = refl

one_entry : entries_of (1 ∷ 7 ∷ 100 ∷ 100 ∷ 5 ∷ 6 ∷ 7 ∷ 0 ∷ []) ≡ entry 5 6 7 ∷ []
unfolding entries_of
one_entry = refl

one_book : book_of 9 7 100 100 (entry 5 6 7 ∷ []) ≡ 1 ∷ 7 ∷ 100 ∷ 100 ∷ 5 ∷ 6 ∷ 7 ∷ 0 ∷ 0 ∷ []
unfolding book_of
one_book = refl

-- the second of two entries has one word too few, and none of its words is written
one_put : put_entries (0 ∷ 0 ∷ 0 ∷ 0 ∷ 0 ∷ 0 ∷ 0 ∷ 0 ∷ 0 ∷ []) 0 (entry 5 6 7 ∷ entry 8 9 10 ∷ []) ≡ 0 ∷ 0 ∷ 0 ∷ 0 ∷ 5 ∷ 6 ∷ 7 ∷ 0 ∷ 0 ∷ []
unfolding put_entries
one_put = refl
