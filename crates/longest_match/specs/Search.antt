-- The search by halving, over any entries. In a sound book it finds what `Status` says (proofs/Halving.antt, Matching.antt); in
-- any other, what it comes upon.
use Rattle.std.specs.Prelude.{Bool, true, false, cond, List, ℕ, zero, suc, ◌+◌, ◌-◌, ◌/◌, min, eqb, leb, ltb, length, get_or, take}
use Rattle.dial_code.specs.Digits.{most_digits}
use Rattle.dial_code.specs.Key.{prefix_key}
use Rattle.rate.specs.OfferWord.{offer_of}
use Rattle.rate.specs.declared.Offer.TheVariants.{Closed}
use Rattle.book_words.specs.Layout.{header_words, no_entry, entries_from}
use Rattle.book.specs.Soundness.{headed_count}
use Rattle.book.specs.Status.{held_offer}
use Rattle.longest_match.specs.Match.{answer, standing}
use Rattle.book_words.specs.declared.Entry.{Entry}
use Rattle.longest_match.specs.declared.Answer.{Answer}

-- An entry of a smaller key, or of the key and not after the day.
unfoldable pub not_after : Entry → ℕ → ℕ → Bool
not_after e k d = cond (eqb e.key k) (leb e.day d) (ltb e.key k)

-- The place that halving finds from `lo` to `hi`, in at most so many turns: it goes on behind the middle where that passes a
-- test, and before it where not.
unfoldable pub halved : (ℕ → Bool) → ℕ → ℕ → ℕ → ℕ
halved test zero lo hi = lo
halved test (suc n) lo hi =
    elim (ltb lo hi) [
      | true ↦
          elim (test (lo + (hi - lo) / 2)) [
            | true ↦ halved test n (lo + (hi - lo) / 2 + 1) hi
            | false ↦ halved test n lo (lo + (hi - lo) / 2)
          ]
      | false ↦ lo
    ]

-- How many of some entries stand no later than a code and a day, as halving finds by a test of single entries; and so many of
-- the first.
abbrev pub up_to : List Entry → ℕ → ℕ → ℕ → Bool
up_to es k d i = not_after (get_or es i no_entry) k d

unfoldable pub found_up_to : List Entry → ℕ → ℕ → ℕ
unfolding halved not_after
found_up_to es k d = halved (up_to es k d) (length es) 0 (length es)

unfoldable pub entries_up_to : List Entry → ℕ → ℕ → List Entry
unfolding found_up_to
entries_up_to es k d = take (found_up_to es k d) es

-- The last of some entries, and one of zeros where there is none.
unfoldable pub last_entry : List Entry → Entry
last_entry es = get_or es (length es - 1) no_entry

-- The offer word of an entry where it is the code's, and closed where it is another's.
unfoldable pub own_word : Entry → ℕ → ℕ
own_word e k = cond (eqb e.key k) e.offer 0

-- The longest truncation of a word, to its first n places or fewer, that is found open or blocked on a day; else closed with
-- key 0. Truncations above a bound are passed over: a search leaves the entries it found to search, and as the bound the key of
-- the last of them, or what is just below the truncation where that is the same.
unfoldable pub tried : List Entry → ℕ → ℕ → ℕ → ℕ → Answer
unfolding prefix_key entries_up_to last_entry own_word
tried es w d zero bound = answer 0 Closed
tried es w d (suc n) bound =
    let k = prefix_key w (suc n) in
    let found = entries_up_to es k d in
    let e = last_entry found in
    elim (leb k bound) [
      | true ↦ standing (held_offer (offer_of (own_word e k))) k (tried found w d n (min e.key (k - 1)))
      | false ↦ tried es w d n bound
    ]

-- The answer to a word on a day: the word is tried, then its truncations, the longest first.
unfoldable pub best_found : List ℕ → ℕ → ℕ → Answer
unfolding headed_count entries_from tried
best_found ws w d = tried (entries_from ws header_words (headed_count ws)) w d most_digits w
