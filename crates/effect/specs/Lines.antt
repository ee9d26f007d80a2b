-- A line's change of its code by the plan of its notice, against what a search of the book before finds. In a sound book these are
-- the effective days of document 01 ("Effective days"; update/proofs/PlanLaws.antt).
use Rattle.std.specs.Prelude.{◌≡◌, refl, Bool, true, false, cond, ◌||◌, List, [], ◌∷◌, ℕ, max, Some}
use Rattle.rate.specs.Price.{rate}
use Rattle.rate.specs.OfferWord.{word_of}
use Rattle.rate.specs.declared.Offer.{Offer}
use Rattle.rate.specs.declared.Offer.TheVariants.{Closed, Blocked, Open}
use Rattle.notice_line.specs.LineRule.{line_of, listed_day}
use Rattle.notice_line.specs.declared.Line.{Line}
use Rattle.notice_header.specs.declared.Kind.TheVariants.{Update}
use Rattle.book_words.specs.Layout.{entry}
use Rattle.book_words.specs.declared.Entry.{Entry}
use Rattle.longest_match.specs.Search.{best_found}
use Rattle.history.specs.Effect.{above}
use Rattle.effect.specs.declared.Plan.{Plan}

-- The offer that a search of the book's words finds for a code, by its key, on a day.
abbrev pub found_in : List ℕ → ℕ → ℕ → Offer
found_in ws k d = (best_found ws k d).offer

-- An increase over the offer found: a delete, a block, or a rate above an open one.
abbrev pub raises : Offer → Offer → Bool
raises found Closed = true
raises found Blocked = true
raises found (Open r first next) = above r found

-- The larger of the received day and the listed day.
abbrev pub wanted_by : Plan → Line → ℕ
wanted_by p l = max p.received (listed_day l.listed)

-- The effective day of a line, its change of its code, and those of all lines.
unfoldable pub effective_by : Plan → (ℕ → ℕ → Offer) → Line → ℕ
effective_by p found l =
    cond (p.noticed || raises (found l.key (wanted_by p l)) l.offer) (max (wanted_by p l) p.floor) (wanted_by p l)

unfoldable pub change_by : Plan → (ℕ → ℕ → Offer) → Line → Entry
unfolding effective_by
change_by p found l = entry l.key (effective_by p found l) (word_of l.offer)

unfoldable pub changes_by : Plan → (ℕ → ℕ → Offer) → List Line → List Entry
unfolding change_by
changes_by p found [] = []
changes_by p found (l ∷ ls) = change_by p found l ∷ changes_by p found ls

-- The latest effective day of the lines and of a day before them.
unfoldable pub latest_by : Plan → (ℕ → ℕ → Offer) → ℕ → List Line → ℕ
unfolding effective_by
latest_by p found latest [] = latest
latest_by p found latest (l ∷ ls) = latest_by p found (max latest (effective_by p found l)) ls

-- an update received on day 100 with the floor on day 107
plan : Bool → Plan
plan noticed = record { kind = Some Update; received = 100; floor = 107; noticed = noticed; closing = 107 }

line : Offer → ℕ → Line
line offer listed = line_of 5 offer listed

-- found open at 6: a higher rate waits, an equal one and a lower one do not; a block waits, and a delete; listed before and after
-- the floor; every line waits where all do; nothing waits for a blocked or a closed offer
days :
    effective_by (plan false) (λ k d. Open (rate 6) 1 1) (line (Open (rate 7) 1 1) 0)
    ∷ effective_by (plan false) (λ k d. Open (rate 6) 1 1) (line (Open (rate 6) 9 9) 0)
    ∷ effective_by (plan false) (λ k d. Open (rate 6) 1 1) (line Blocked 0)
    ∷ effective_by (plan false) (λ k d. Closed) (line Closed 105)
    ∷ effective_by (plan false) (λ k d. Open (rate 6) 1 1) (line (Open (rate 7) 1 1) 121)
    ∷ effective_by (plan false) (λ k d. Open (rate 6) 1 1) (line (Open (rate 5) 1 1) 91)
    ∷ effective_by (plan true) (λ k d. Open (rate 6) 1 1) (line (Open (rate 5) 1 1) 0)
    ∷ effective_by (plan false) (λ k d. Blocked) (line (Open (rate 7) 1 1) 0)
    ∷ effective_by (plan false) (λ k d. Closed) (line (Open (rate 7) 1 1) 103)
    ∷ []
    ≡ 107 ∷ 100 ∷ 107 ∷ 107 ∷ 120 ∷ 100 ∷ 107 ∷ 100 ∷ 102 ∷ []
unfolding effective_by plan line
days = refl
