-- The offer for a number by longest match (document 01, "The plain machine" and "The book").
use Rattle.std.specs.Prelude.{◌≡◌, refl, Bool, true, false, List, [], ◌∷◌, ℕ, zero, suc, length, take}
use Rattle.dial_code.specs.Key.{key}
use Rattle.rate.specs.Price.{rate}
use Rattle.rate.specs.OfferWord.{offer_of}
use Rattle.rate.specs.declared.Offer.{Offer}
use Rattle.rate.specs.declared.Offer.TheVariants.{Closed, Blocked, Open}
use Rattle.book_words.specs.Layout.{entry}
use Rattle.book.specs.Status.{offer_in}
use Rattle.book_words.specs.declared.Entry.{Entry}
use Rattle.longest_match.specs.declared.Answer.{Answer}

abbrev pub answer : ℕ → Offer → Answer
answer k o = record { key = k; offer = o }

-- open or blocked
abbrev pub is_standing : Offer → Bool
is_standing Closed = false
is_standing Blocked = true
is_standing (Open r first next) = true

-- A status that is open or blocked is the answer, with its key; else the answer is another.
abbrev pub standing : Offer → ℕ → Answer → Answer
standing Closed k other = other
standing Blocked k other = answer k Blocked
standing (Open r first next) k other = answer k (Open r first next)

-- The longest of a number's first n beginnings whose status, by key, is open or blocked; else closed with key 0.
unfoldable pub longest : (ℕ → Offer) → List ℕ → ℕ → Answer
longest status ds zero = answer 0 Closed
longest status ds (suc n) = standing (status (key (take (suc n) ds))) (key (take (suc n) ds)) (longest status ds n)

-- The answer to a number, from the statuses of codes.
unfoldable pub matched : (ℕ → Offer) → List ℕ → Answer
unfolding longest
matched status ds = longest status ds (length ds)

-- 23480 open from day 100 to 109, 2348 blocked from day 105 on
some : List Entry
some =
    entry (key (2 ∷ 3 ∷ 4 ∷ 8 ∷ [])) 105 1
    ∷ entry (key (2 ∷ 3 ∷ 4 ∷ 8 ∷ 0 ∷ [])) 100 259
    ∷ entry (key (2 ∷ 3 ∷ 4 ∷ 8 ∷ 0 ∷ [])) 110 0
    ∷ []

matches :
    matched (λ k. offer_in some k 99) (2 ∷ 3 ∷ 4 ∷ 8 ∷ 0 ∷ 6 ∷ [])
    ∷ matched (λ k. offer_in some k 105) (2 ∷ 3 ∷ 4 ∷ 8 ∷ 0 ∷ 6 ∷ [])
    ∷ matched (λ k. offer_in some k 105) (2 ∷ 3 ∷ 4 ∷ 8 ∷ 1 ∷ [])
    ∷ matched (λ k. offer_in some k 110) (2 ∷ 3 ∷ 4 ∷ 8 ∷ 0 ∷ [])
    ∷ matched (λ k. offer_in some k 110) (2 ∷ 3 ∷ [])
    ∷ []
    ≡ answer 0 Closed
    ∷ answer (key (2 ∷ 3 ∷ 4 ∷ 8 ∷ 0 ∷ [])) (Open (rate 0) 1 1)
    ∷ answer (key (2 ∷ 3 ∷ 4 ∷ 8 ∷ [])) Blocked
    ∷ answer (key (2 ∷ 3 ∷ 4 ∷ 8 ∷ [])) Blocked
    ∷ answer 0 Closed
    ∷ []
unfolding some matched offer_in key offer_of
matches = refl
