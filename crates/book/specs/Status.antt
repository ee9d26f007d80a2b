-- The status of a code on a day (document 01, "The plain machine" and "The book").
use Rattle.std.specs.Prelude.{◌≡◌, refl, cond, ◌&&◌, List, [], ◌∷◌, ℕ, eqb, leb, Option, unwrap_or}
use Rattle.dial_code.specs.Key.{key}
use Rattle.rate.specs.OfferWord.{offer_of}
use Rattle.rate.specs.declared.Offer.{Offer}
use Rattle.rate.specs.declared.Offer.TheVariants.{Closed}
use Rattle.book_words.specs.Layout.{entry}
use Rattle.book_words.specs.declared.Entry.{Entry}

-- The offer word of a code on a day: that of the last of its entries not after the day, and `so far` where there is none.
unfoldable pub status_from : ℕ → List Entry → ℕ → ℕ → ℕ
status_from w [] k d = w
status_from w (e ∷ es) k d = status_from (cond (eqb e.key k && leb e.day d) e.offer w) es k d

-- The offer word of a code on a day, closed where no entry of its own is not after the day.
unfoldable pub status_in : List Entry → ℕ → ℕ → ℕ
unfolding status_from
status_in es k d = status_from 0 es k d

abbrev pub held_offer : Option Offer → Offer
held_offer o = unwrap_or o Closed

-- The status of a code on a day, as an offer.
unfoldable pub offer_in : List Entry → ℕ → ℕ → Offer
unfolding status_in
offer_in es k d = held_offer (offer_of (status_in es k d))

-- 23480 open from day 100 to 109, 2348 blocked from day 105 on
some : List Entry
some =
    entry (key (2 ∷ 3 ∷ 4 ∷ 8 ∷ [])) 105 1
    ∷ entry (key (2 ∷ 3 ∷ 4 ∷ 8 ∷ 0 ∷ [])) 100 259
    ∷ entry (key (2 ∷ 3 ∷ 4 ∷ 8 ∷ 0 ∷ [])) 110 0
    ∷ []

days :
    status_in some (key (2 ∷ 3 ∷ 4 ∷ 8 ∷ 0 ∷ [])) 99
    ∷ status_in some (key (2 ∷ 3 ∷ 4 ∷ 8 ∷ 0 ∷ [])) 100
    ∷ status_in some (key (2 ∷ 3 ∷ 4 ∷ 8 ∷ 0 ∷ [])) 109
    ∷ status_in some (key (2 ∷ 3 ∷ 4 ∷ 8 ∷ 0 ∷ [])) 110
    ∷ status_in some (key (2 ∷ 3 ∷ 4 ∷ [])) 110
    ∷ []
    ≡ 0 ∷ 259 ∷ 259 ∷ 0 ∷ 0 ∷ []
unfolding some status_in key
days = refl
