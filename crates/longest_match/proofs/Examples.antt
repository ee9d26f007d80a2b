-- Closed examples of the search by halving: each holds as it computes. Assumes nothing.
use Rattle.std.specs.Prelude.{◌≡◌, refl, true, false, List, [], ◌∷◌, ◌++◌, ℕ, ◌+◌, ◌*◌, eqb, ltb, take}
use Rattle.dial_code.specs.Key.{key}
use Rattle.rate.specs.Price.{rate}
use Rattle.rate.specs.OfferWord.{offer_of}
use Rattle.rate.specs.declared.Offer.TheVariants.{Closed, Blocked, Open}
use Rattle.book_words.specs.Layout.{header_words, entry_words, header, words_of_header, entry, words_of, book_of}
use Rattle.book_words.specs.declared.Entry.{Entry}
use Rattle.longest_match.specs.Match.{answer}
use Rattle.longest_match.specs.Search.{halved, found_up_to, last_entry, own_word, best_found}

-- the first three of five places pass, none, all, the one of one, only the middle; no turn
places :
    halved (λ i. ltb i 3) 5 0 5
    ∷ halved (λ i. false) 5 0 5
    ∷ halved (λ i. true) 5 0 5
    ∷ halved (λ i. true) 1 0 1
    ∷ halved (λ i. eqb i 2) 5 0 5
    ∷ halved (λ i. true) 0 0 5
    ∷ []
    ≡ 3 ∷ 0 ∷ 5 ∷ 1 ∷ 3 ∷ 0 ∷ []
unfolding halved
places = refl

k1 : ℕ
k1 = key (2 ∷ 3 ∷ 4 ∷ 8 ∷ 0 ∷ [])

k2 : ℕ
k2 = key (2 ∷ 3 ∷ 4 ∷ 8 ∷ [])

-- P1's book
one : List Entry
one = entry k1 100 589824000259 ∷ []

-- 2348 blocked from day 105 on, 23480 open from day 100 to 109: in order, and the other way round
three : List Entry
three = entry k2 105 1 ∷ entry k1 100 259 ∷ entry k1 110 0 ∷ []

turned : List Entry
turned = entry k1 110 0 ∷ entry k1 100 259 ∷ entry k2 105 1 ∷ []

-- the day before, the day itself, keys before and behind; none to search
one_found :
    found_up_to one k1 99
    ∷ found_up_to one k1 100
    ∷ found_up_to one k2 100
    ∷ found_up_to one (k1 + 1) 100
    ∷ found_up_to [] k1 100
    ∷ []
    ≡ 0 ∷ 1 ∷ 0 ∷ 1 ∷ 0 ∷ []
unfolding found_up_to one k1 k2 key
one_found = refl

-- the entries in order, and two of them that a wrong order hides
three_found :
    found_up_to three k2 105
    ∷ found_up_to three k1 99
    ∷ found_up_to three k1 109
    ∷ found_up_to three k1 110
    ∷ found_up_to turned k1 109
    ∷ found_up_to turned k2 105
    ∷ []
    ≡ 1 ∷ 1 ∷ 2 ∷ 3 ∷ 3 ∷ 0 ∷ []
unfolding found_up_to three turned k1 k2 key
three_found = refl

-- the words of what is found there
own_words :
    own_word (last_entry (take 1 three)) k2
    ∷ own_word (last_entry (take 1 three)) k1
    ∷ own_word (last_entry (take 2 three)) k1
    ∷ own_word (last_entry three) k1
    ∷ own_word (last_entry turned) k1
    ∷ own_word (last_entry []) k2
    ∷ []
    ≡ 1 ∷ 0 ∷ 259 ∷ 0 ∷ 0 ∷ 0 ∷ []
unfolding own_word last_entry three turned k1 k2 key
own_words = refl

-- books of them, with words over
book_of_three : List Entry → List ℕ
book_of_three es = book_of (header_words + 3 * entry_words + 1) 7 100 110 es

-- 2 open from day 100 on, 2348 blocked from day 105 on, 23480 open from day 100 to 104
layered : List ℕ
layered =
    book_of (header_words + 4 * entry_words) 7 100 105
    (entry (key (2 ∷ [])) 100 260 ∷ entry k2 105 1 ∷ entry k1 100 259 ∷ entry k1 105 0 ∷ [])

-- 234806 and 23481 on some days, and a word that is no key
best_found_law :
    best_found (book_of_three three) (key (2 ∷ 3 ∷ 4 ∷ 8 ∷ 0 ∷ 6 ∷ [])) 99
    ∷ best_found (book_of_three three) (key (2 ∷ 3 ∷ 4 ∷ 8 ∷ 0 ∷ 6 ∷ [])) 105
    ∷ best_found (book_of_three three) (key (2 ∷ 3 ∷ 4 ∷ 8 ∷ 1 ∷ [])) 105
    ∷ best_found (book_of_three three) (key (2 ∷ 3 ∷ 4 ∷ 8 ∷ 0 ∷ [])) 110
    ∷ best_found (book_of_three three) (k1 + 5) 105
    ∷ []
    ≡ answer 0 Closed
    ∷ answer k1 (Open (rate 0) 1 1)
    ∷ answer k2 Blocked
    ∷ answer k2 Blocked
    ∷ answer k1 (Open (rate 0) 1 1)
    ∷ []
unfolding best_found three book_of_three book_of k1 k2 key offer_of
best_found_law = refl

-- 234806 by its first five and four digits, 23481 and 23470 by their first, 11 by none; no sound header, and a wrong order
layers_found :
    best_found layered (key (2 ∷ 3 ∷ 4 ∷ 8 ∷ 0 ∷ 6 ∷ [])) 104
    ∷ best_found layered (key (2 ∷ 3 ∷ 4 ∷ 8 ∷ 0 ∷ 6 ∷ [])) 105
    ∷ best_found layered (key (2 ∷ 3 ∷ 4 ∷ 8 ∷ 1 ∷ [])) 104
    ∷ best_found layered (key (2 ∷ 3 ∷ 4 ∷ 7 ∷ 0 ∷ [])) 105
    ∷ best_found layered (key (1 ∷ 1 ∷ [])) 105
    ∷ best_found [] k1 105
    ∷ best_found (words_of_header (header 2 7 100 100) ++ words_of (entry k1 100 259 ∷ [])) k1 100
    ∷ best_found (book_of_three turned) k1 109
    ∷ best_found (book_of_three turned) 0 109
    ∷ []
    ≡ answer k1 (Open (rate 0) 1 1)
    ∷ answer k2 Blocked
    ∷ answer (key (2 ∷ [])) (Open (rate 0) 1 2)
    ∷ answer (key (2 ∷ [])) (Open (rate 0) 1 2)
    ∷ answer 0 Closed
    ∷ answer 0 Closed
    ∷ answer 0 Closed
    ∷ answer 0 Closed
    ∷ answer 0 Closed
    ∷ []
unfolding best_found layered turned book_of_three book_of k1 k2 key offer_of
layers_found = refl
