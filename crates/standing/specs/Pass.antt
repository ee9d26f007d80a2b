-- What stands on a day, worked from the entries one by one: an entry is its code's status on a day where it is not after the day and
-- the next entry is of another code or after the day. In a sound book these are the lines of the standing list.
use Rattle.std.specs.Prelude.{◌≡◌, refl, Bool, true, false, cond, ◌&&◌, not, List, [], ◌∷◌, ◌++◌, ℕ, ◌+◌, ◌*◌, eqb, leb}
use Rattle.dial_code.specs.Key.{key}
use Rattle.rate.specs.Price.{rate}
use Rattle.rate.specs.OfferWord.{offer_of}
use Rattle.rate.specs.declared.Offer.{Offer}
use Rattle.rate.specs.declared.Offer.TheVariants.{Closed, Blocked, Open}
use Rattle.notice_line.specs.LineRule.{line_of}
use Rattle.notice_line.specs.declared.Line.{Line}
use Rattle.book_words.specs.Layout.{header_words, entry_words, most_period, entry, entries_from, book_of}
use Rattle.book.specs.Soundness.{headed_count}
use Rattle.book.specs.Status.{held_offer}
use Rattle.book_words.specs.declared.Entry.{Entry}

-- the first of the entries after an entry is of the same code and not after the day
unfoldable pub is_replaced : Entry → List Entry → ℕ → Bool
is_replaced e [] day = false
is_replaced e (f ∷ fs) day = eqb e.key f.key && leb f.day day

-- An entry with those after it gives its code's status on a day, and that is not closed.
unfoldable pub stands : Entry → List Entry → ℕ → Bool
unfolding is_replaced
stands e es day = leb e.day day && (not (eqb e.offer 0) && not (is_replaced e es day))

-- The offer of a word: closed where no offer has it.
abbrev pub offer_at : ℕ → Offer
offer_at w = held_offer (offer_of w)

-- The line of an entry, which has no listed day.
unfoldable pub entry_line : Entry → Line
unfolding offer_of
entry_line e = line_of e.key (offer_at e.offer) 0

-- What an entry adds to the list: its line, or none.
unfoldable pub added_by : Entry → List Entry → ℕ → List Line
unfolding stands entry_line
added_by e es day = cond (stands e es day) (entry_line e ∷ []) []

-- What each of some entries adds, one after the other.
unfoldable pub passed : List Entry → ℕ → List Line
passed [] day = []
passed (e ∷ es) day = added_by e es day ++ passed es day

-- The lines of a day in any words: what the entries add that a sound header counts.
unfoldable pub lines_by : List ℕ → ℕ → List Line
lines_by ws day = passed (entries_from ws header_words (headed_count ws)) day

-- From its day on and not before it; not where it is closed; up to the next entry of its code, and past one of another.
standing :
    stands (entry 5 100 259) [] 100
    ∷ stands (entry 5 100 259) [] 99
    ∷ stands (entry 5 100 0) [] 100
    ∷ stands (entry 5 100 259) (entry 5 110 0 ∷ []) 110
    ∷ stands (entry 5 100 259) (entry 5 110 0 ∷ []) 109
    ∷ stands (entry 5 100 259) (entry 6 110 0 ∷ []) 110
    ∷ []
    ≡ true ∷ false ∷ false ∷ false ∷ true ∷ true ∷ []
unfolding stands
standing = refl

-- open, blocked, and a word that no offer has
lines_of :
    entry_line (entry 5 100 259) ∷ entry_line (entry 5 100 1) ∷ entry_line (entry 5 100 2) ∷ []
    ≡ line_of 5 (Open (rate 0) 1 1) 0 ∷ line_of 5 Blocked 0 ∷ line_of 5 Closed 0 ∷ []
unfolding entry_line offer_of
lines_of = refl

-- 44 blocked from day 50 on, 7 open from day 10 to 89
some : ℕ → List ℕ
some period =
    book_of (header_words + 3 * entry_words) period 100 200
    (entry (key (4 ∷ 4 ∷ [])) 50 1
    ∷ entry (key (7 ∷ [])) 10 259
    ∷ entry (key (7 ∷ [])) 90 0
    ∷ [])

-- on the last day of 7 and on the next; with a header that is not sound, and with no words
all_lines :
    lines_by (some 7) 89 ∷ lines_by (some 7) 90 ∷ lines_by (some (most_period + 1)) 90 ∷ lines_by [] 90 ∷ []
    ≡ (line_of (key (4 ∷ 4 ∷ [])) Blocked 0 ∷ line_of (key (7 ∷ [])) (Open (rate 0) 1 1) 0 ∷ [])
    ∷ (line_of (key (4 ∷ 4 ∷ [])) Blocked 0 ∷ [])
    ∷ []
    ∷ []
    ∷ []
unfolding lines_by passed added_by entries_from headed_count some book_of key offer_of
all_lines = refl
