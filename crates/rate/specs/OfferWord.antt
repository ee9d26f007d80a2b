-- Offers and offer words (document 01, "The book").
use Rattle.std.specs.Prelude.{◌≡◌, refl, Bool, true, cond, ◌&&◌, [], ◌∷◌, ℕ, ◌+◌, ◌-◌, ◌*◌, ◌/◌, ◌%◌, leb, eqb, Option, Some, None}
use Rattle.rate.specs.Price.{dearest, rate}
use Rattle.rate.specs.declared.Offer.{Offer}
use Rattle.rate.specs.declared.Offer.TheVariants.{Closed, Blocked, Open}

-- The offer word: 0 closed, 1 blocked, else 2 + rate × 65,536 + first × 256 + next.
unfoldable pub word_of : Offer → ℕ
word_of Closed = 0
word_of Blocked = 1
word_of (Open r first next) = 2 + r.0 * 65536 + first * 256 + next

-- increments are 1 to 255 seconds
abbrev pub is_increment : ℕ → Bool
is_increment x = leb 1 x && leb x 255

-- The offers that a book holds: an open rate runs from 0 to the dearest.
unfoldable pub in_range : Offer → Bool
in_range Closed = true
in_range Blocked = true
in_range (Open r first next) = leb r.0 dearest && (is_increment first && is_increment next)

-- The open offer whose word is 2 + x, if its parts are in range.
unfoldable pub opened : ℕ → Option Offer
unfolding in_range
opened x =
    cond (in_range (Open (rate (x / 65536)) (x / 256 % 256) (x % 256)))
    (Some (Open (rate (x / 65536)) (x / 256 % 256) (x % 256)))
    None

-- The offer that a word stands for, or that it is no offer word.
unfoldable pub offer_of : ℕ → Option Offer
unfolding opened
offer_of w = cond (eqb w 0) (Some Closed) (cond (eqb w 1) (Some Blocked) (opened (w - 2)))

-- P1: 0.09 at 1/1
p1_word : word_of (Open (rate 9000000) 1 1) ≡ 589824000259
unfolding word_of
p1_word = refl

p1_offer : offer_of 589824000259 ≡ Some (Open (rate 9000000) 1 1)
unfolding offer_of
p1_offer = refl

-- the least and the largest open word, and what lies beside them
edges :
    offer_of 0 ∷ offer_of 1 ∷ offer_of 2 ∷ offer_of 258 ∷ offer_of 259 ∷ []
    ≡ Some Closed ∷ Some Blocked ∷ None ∷ None ∷ Some (Open (rate 0) 1 1) ∷ []
unfolding offer_of
edges = refl

dearest_word : word_of (Open (rate 999000000) 255 255) ≡ 65470464065537
unfolding word_of
dearest_word = refl

dear :
    offer_of 65470464065537 ∷ offer_of 65470464065538 ∷ offer_of (65470464065537 + 65536) ∷ []
    ≡ Some (Open (rate 999000000) 255 255) ∷ None ∷ None ∷ []
unfolding offer_of
dear = refl
