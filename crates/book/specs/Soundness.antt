-- When a book is sound (document 01, "The book"): entries rise by key then day, each key is that of an allowed code, days and
-- offer words are in range, no code starts closed or repeats its status, unused words are 0; the header is in range, its two
-- days tested for range only.
use Rattle.std.specs.Prelude.{◌≡◌, refl, Bool, true, false, cond, ◌&&◌, not, List, [], ◌∷◌, ◌++◌, ℕ, ◌+◌, ◌-◌, ◌*◌, eqb, leb, ltb, length, drop, replicate, Option, Some, None, is_some, unwrap_or}
use Rattle.std.specs.List.{list_all}
use Rattle.allowed_code.specs.Code.{is_code_key}
use Rattle.dial_code.specs.Key.{key}
use Rattle.calendar.specs.Time.{last_day, last_received_day}
use Rattle.rate.specs.OfferWord.{offer_of}
use Rattle.book_words.specs.Layout.{header_words, entry_words, most_period, count_of, period_of, received_of, latest_of, held, entries_of}
use Rattle.book_words.specs.Layout.{header, words_of_header, entry, words_of}
use Rattle.book_words.specs.declared.Entry.{Entry}
use Rattle.book_words.specs.declared.Header.{Header}

-- an offer word in range
unfoldable pub is_offer_word : ℕ → Bool
is_offer_word w = is_some (offer_of w)

-- An entry by itself: its day and its offer word are in range.
unfoldable pub in_range : Entry → Bool
unfolding is_offer_word
in_range e = leb e.day last_day && is_offer_word e.offer

-- The first entry of a code: an allowed code's key, and not closed.
unfoldable pub begins : Entry → Bool
unfolding in_range
begins e = is_code_key e.key && (not (eqb e.offer 0) && in_range e)

-- The entry after another: of the same code, on a later day, with another status; or the first of a code with a larger key.
unfoldable pub follows : Entry → Entry → Bool
unfolding begins in_range
follows e f =
    cond (eqb e.key f.key)
    (ltb e.day f.day && (not (eqb e.offer f.offer) && in_range f))
    (ltb e.key f.key && begins f)

unfoldable pub sound_after : Entry → List Entry → Bool
unfolding follows
sound_after e [] = true
sound_after e (f ∷ fs) = follows e f && sound_after f fs

unfoldable pub sound_entries : List Entry → Bool
unfolding begins sound_after
sound_entries [] = true
sound_entries (e ∷ es) = begins e && sound_after e es

unfoldable pub all_zero : List ℕ → Bool
all_zero ws = list_all (λ w. eqb w 0) ws

-- The header words: the entry count within the entries held, the notice period and the two days in range.
unfoldable pub sound_header : List ℕ → Bool
unfolding held
sound_header ws =
    leb (count_of ws) (held (length ws))
    && (leb (period_of ws) most_period && (leb (received_of ws) last_received_day && leb (latest_of ws) last_day))

-- A sound book.
unfoldable pub sound : List ℕ → Bool
unfolding sound_header sound_entries all_zero entries_of
sound ws =
    leb header_words (length ws)
    && (sound_header ws && (sound_entries (entries_of ws) && all_zero (drop (header_words + count_of ws * entry_words) ws)))

-- How many entries a header counts, where the words have a sound one; none where not.
unfoldable pub counted : List ℕ → Option ℕ
unfolding sound_header
counted ws = cond (leb header_words (length ws) && sound_header ws) (Some (count_of ws)) None

unfoldable pub headed_count : List ℕ → ℕ
unfolding counted
headed_count ws = unwrap_or (counted ws) 0

-- a fresh book, P1's book, and books broken in one word each: a count too large, a period, a day, a code not allowed, an entry's
-- day, an offer word, a closed start, an unused word
k1 : ℕ
k1 = key (2 ∷ 3 ∷ 4 ∷ 8 ∷ 0 ∷ [])

p1 : Entry
p1 = entry k1 100 589824000259

-- a header and some entries, however many it counts
filled : Header → List Entry → List ℕ
filled h es = words_of_header h ++ words_of es

good :
    sound (filled (header 0 7 0 0) [] ++ (0 ∷ 0 ∷ []))
    ∷ sound (filled (header 1 7 100 100) (p1 ∷ []))
    ∷ sound (filled (header 2 7 100 100) (p1 ∷ entry k1 101 0 ∷ []) ++ (0 ∷ []))
    ∷ sound (filled (header 2 most_period last_received_day last_day) (entry k1 0 1 ∷ entry (key (2 ∷ 3 ∷ 4 ∷ 8 ∷ 0 ∷ 6 ∷ [])) last_day 259 ∷ []))
    ∷ []
    ≡ true ∷ true ∷ true ∷ true ∷ []
unfolding sound filled words_of p1 k1 key is_code_key offer_of
good = refl

broken :
    sound (replicate (header_words - 1) 0)
    ∷ sound (filled (header 1 7 0 0) [] ++ (k1 ∷ 100 ∷ []))
    ∷ sound (filled (header 0 (most_period + 1) 0 0) [])
    ∷ sound (filled (header 0 7 (last_received_day + 1) 0) [])
    ∷ sound (filled (header 0 7 0 (last_day + 1)) [])
    ∷ sound (filled (header 1 7 0 0) (entry (k1 + 1) 100 1 ∷ []))
    ∷ sound (filled (header 1 7 0 0) (entry k1 (last_day + 1) 1 ∷ []))
    ∷ sound (filled (header 1 7 0 0) (entry k1 100 258 ∷ []))
    ∷ sound (filled (header 1 7 0 0) (entry k1 100 0 ∷ []))
    ∷ sound (filled (header 2 7 0 0) (entry k1 100 1 ∷ entry k1 101 1 ∷ []))
    ∷ sound (filled (header 2 7 0 0) (entry k1 100 1 ∷ entry k1 100 0 ∷ []))
    ∷ sound (filled (header 0 7 0 0) [] ++ (1 ∷ []))
    ∷ []
    ≡ false ∷ false ∷ false ∷ false ∷ false ∷ false ∷ false ∷ false ∷ false ∷ false ∷ false ∷ false ∷ []
unfolding sound filled words_of k1 key is_code_key offer_of
broken = refl

-- no word, no entry, a word short of a header; P1's entry under a count of 2, and under a period of 366; P1's book
counts :
    headed_count []
    ∷ headed_count (filled (header 0 7 0 0) [])
    ∷ headed_count (replicate (header_words - 1) 1)
    ∷ headed_count (filled (header 2 7 100 100) (p1 ∷ []))
    ∷ headed_count (filled (header 1 (most_period + 1) 100 100) (p1 ∷ []))
    ∷ headed_count (filled (header 1 7 100 100) (p1 ∷ []))
    ∷ []
    ≡ 0 ∷ 0 ∷ 0 ∷ 0 ∷ 0 ∷ 1 ∷ []
unfolding headed_count filled words_of p1 k1 key
counts = refl
