-- Effective days (document 01, "Effective days"): when each line of a notice takes effect, what a notice closes and when, and
-- the statuses after it, all worked from what was known before it.
use Rattle.std.specs.Prelude.{◌≡◌, refl, Bool, true, false, cond, ◌&&◌, ◌||◌, List, [], ◌∷◌, map, ℕ, ◌+◌, max, eqb, leb, ltb, Option, Some, None}
use Rattle.dial_code.specs.Key.{key, places_of, digits_of_key}
use Rattle.country_code.specs.CountryCode.{country, country_of_key}
use Rattle.rate.specs.Price.{rate}
use Rattle.rate.specs.declared.Rate.{Rate}
use Rattle.rate.specs.declared.Offer.{Offer}
use Rattle.rate.specs.declared.Offer.TheVariants.{Closed, Blocked, Open}
use Rattle.notice_line.specs.LineRule.{line_of, listed_day}
use Rattle.notice_header.specs.declared.Kind.{Kind}
use Rattle.notice_header.specs.declared.Kind.TheVariants.{Full, Partial, Update, Replacement}
use Rattle.notice.specs.NoticeRule.{Notice}
use Rattle.notice_line.specs.declared.Line.{Line}
use Rattle.longest_match.specs.Match.{longest, matched}

-- What the notices before give: the status of each code, by its key, on each day, and the latest effective day of their lines.
pub record Known : Type 0 where
  pub status : ℕ → ℕ → Offer
  pub latest : ℕ

-- Wanted day: the larger of the received day and the listed day, or the received day if none.
abbrev pub wanted : Notice → Line → ℕ
wanted n l = max n.received (listed_day l.listed)

-- The floor: the received day and the notice period after it.
abbrev pub floor_of : ℕ → Notice → ℕ
floor_of period n = n.received + period

-- every line of a replacement waits for the floor
abbrev pub is_replacement : Kind → Bool
is_replacement Full = false
is_replacement Partial = false
is_replacement Update = false
is_replacement (Replacement country) = true

-- the larger of wanted day and floor
abbrev pub noticed : ℕ → Notice → Line → ℕ
noticed period n l = max (wanted n l) (floor_of period n)

-- Some line's wanted day is before the latest effective day of any line accepted earlier.
unfoldable pub some_earlier : ℕ → Notice → List Line → Bool
some_earlier latest n [] = false
some_earlier latest n (l ∷ ls) = ltb (wanted n l) latest || some_earlier latest n ls

abbrev pub out_of_sequence : Known → Notice → Bool
out_of_sequence before n = some_earlier before.latest n n.lines

-- a rate above the one that an offer has, if it is open
abbrev pub above : Rate → Offer → Bool
above r Closed = false
above r Blocked = false
above r (Open old first next) = ltb old.0 r.0

-- An increase: a delete, a block, or a rate above the open rate that longest match gives for the code on the wanted day.
abbrev pub increases : Known → ℕ → ℕ → Offer → Bool
increases before k day Closed = true
increases before k day Blocked = true
increases before k day (Open r first next) = above r (matched (λ x. before.status x day) (digits_of_key k)).offer

abbrev pub is_increase : Known → Notice → Line → Bool
is_increase before n l = increases before l.key (wanted n l) l.offer

-- The effective day of a line: a replacement's lines, the lines of a notice out of sequence, and increases wait for the floor.
unfoldable pub effective : ℕ → Known → Notice → Line → ℕ
effective period before n l =
    cond (is_replacement n.kind || (out_of_sequence before n || is_increase before n l)) (noticed period n l) (wanted n l)

-- The line of a code, if a notice lists it.
pub data Listing : Type 0 where
  listed : Line → Listing
  unlisted : Listing

unfoldable pub line_for : ℕ → List Line → Listing
line_for k [] = unlisted
line_for k (l ∷ ls) = cond (eqb l.key k) (listed l) (line_for k ls)

abbrev pub same_country : Option ℕ → Option ℕ → Bool
same_country (Some a) (Some b) = eqb a b
same_country (Some a) None = false
same_country None c = false

-- A code lies in the country of one of the lines.
unfoldable pub named_by : List Line → ℕ → Bool
named_by [] k = false
named_by (l ∷ ls) k = same_country (country_of_key l.key) (country_of_key k) || named_by ls k

abbrev pub in_country : ℕ → Option ℕ → Bool
in_country c (Some d) = eqb d c
in_country c None = false

-- What a notice closes of the codes that it does not list: full every code, partial those of the countries of its lines, a
-- replacement those of its country, an update none.
abbrev pub closes_as : Kind → List Line → ℕ → Bool
closes_as Full ls k = true
closes_as Partial ls k = named_by ls k
closes_as Update ls k = false
closes_as (Replacement c) ls k = in_country c (country_of_key k)

unfoldable pub closes : Notice → ℕ → Bool
closes n k = closes_as n.kind n.lines k

-- The day on which it closes them: the floor; for a replacement, whose lines agree in their last field, the larger of the
-- wanted day and the floor.
abbrev pub first_noticed : ℕ → Notice → List Line → ℕ
first_noticed period n [] = floor_of period n
first_noticed period n (l ∷ ls) = noticed period n l

unfoldable pub closing : ℕ → Notice → ℕ
closing period n = cond (is_replacement n.kind) (first_noticed period n n.lines) (floor_of period n)

-- What a notice does to a code: from a day on it has an offer, or nothing.
pub data Change : Type 0 where
  from : ℕ → Offer → Change
  nothing : Change

abbrev pub listed_change : ℕ → Known → Notice → ℕ → Listing → Change
listed_change period before n k (listed l) = from (effective period before n l) l.offer
listed_change period before n k unlisted = cond (closes n k) (from (closing period n) Closed) nothing

unfoldable pub change_of : ℕ → Known → Notice → ℕ → Change
change_of period before n k = listed_change period before n k (line_for k n.lines)

-- An offer after a change, on a day.
abbrev pub changed : Change → ℕ → Offer → Offer
changed (from day offer) d old = cond (leb day d) offer old
changed nothing d old = old

-- The latest effective day of some lines, and of what was known.
unfoldable pub latest_effective : ℕ → Known → Notice → List Line → ℕ
latest_effective period before n [] = before.latest
latest_effective period before n (l ∷ ls) = max (effective period before n l) (latest_effective period before n ls)

-- What is known after a notice.
abbrev pub after_notice : ℕ → Known → Notice → Known
after_notice period before n =
    record {
      status = λ k d. changed (change_of period before n k) d (before.status k d);
      latest = latest_effective period before n n.lines;
    }

-- Closed examples. Before: 79 open at 0.06 from day 10, 44 blocked, latest effective day 10. The notice: an update received on
-- day 100, N = 7, whose lines list no day, day 120 and day 90.
standing : Known
standing =
    record {
      status = λ k d. cond (eqb k (key (4 ∷ 4 ∷ []))) Blocked (cond (eqb k (key (7 ∷ 9 ∷ [])) && leb 10 d) (Open (rate 6000000) 1 1) Closed);
      latest = 10;
    }

sent : Kind → List Line → Notice
sent kind ls = record { kind = kind; received = 100; lines = ls }

line : List ℕ → Offer → ℕ → Line
line ds offer day = line_of (key ds) offer day

-- a longer code is compared with the shorter code that prices it; equal rates, and blocked or missing offers, are no increase;
-- deletes and blocks are
increase :
    map (is_increase standing (sent Update []))
    (line (7 ∷ 9 ∷ 0 ∷ 3 ∷ []) (Open (rate 6000001) 1 1) 0
    ∷ line (7 ∷ 9 ∷ 0 ∷ 3 ∷ []) (Open (rate 6000000) 60 60) 0
    ∷ line (4 ∷ 4 ∷ 2 ∷ []) (Open (rate 6000001) 1 1) 0
    ∷ line (9 ∷ 1 ∷ []) (Open (rate 6000001) 1 1) 0
    ∷ line (9 ∷ 1 ∷ []) Closed 0
    ∷ line (9 ∷ 1 ∷ []) Blocked 0
    ∷ [])
    ≡ true ∷ false ∷ false ∷ false ∷ true ∷ true ∷ []
unfolding standing sent line key digits_of_key places_of matched longest
increase = refl

-- wanted days, and effective days: an increase waits for the floor, day 107, unless it is listed later; another line does not
days :
    map (effective 7 standing (sent Update []))
    (line (9 ∷ 1 ∷ []) (Open (rate 1) 1 1) 0
    ∷ line (9 ∷ 1 ∷ []) (Open (rate 1) 1 1) 121
    ∷ line (9 ∷ 1 ∷ []) (Open (rate 1) 1 1) 91
    ∷ line (9 ∷ 1 ∷ []) Blocked 0
    ∷ line (9 ∷ 1 ∷ []) Closed 121
    ∷ [])
    ≡ 100 ∷ 120 ∷ 100 ∷ 107 ∷ 120 ∷ []
unfolding standing sent line effective some_earlier key digits_of_key places_of matched longest
days = refl

-- out of sequence: a wanted day before the latest effective day, and not on it; then every line waits for the floor
sequence : some_earlier 100 (sent Update []) (line (9 ∷ 1 ∷ []) Blocked 0 ∷ []) ∷ some_earlier 101 (sent Update []) (line (9 ∷ 1 ∷ []) Blocked 0 ∷ []) ∷ [] ≡ false ∷ true ∷ []
unfolding sent line some_earlier
sequence = refl

-- what the kinds close of 44, where a line lists 442 or 91; and when
closed :
    closes (sent Full []) (key (4 ∷ 4 ∷ []))
    ∷ closes (sent Partial (line (4 ∷ 4 ∷ 2 ∷ []) Blocked 0 ∷ [])) (key (4 ∷ 4 ∷ []))
    ∷ closes (sent Partial (line (9 ∷ 1 ∷ []) Blocked 0 ∷ [])) (key (4 ∷ 4 ∷ []))
    ∷ closes (sent Update (line (4 ∷ 4 ∷ 2 ∷ []) Blocked 0 ∷ [])) (key (4 ∷ 4 ∷ []))
    ∷ closes (sent (Replacement 44) []) (key (4 ∷ 4 ∷ []))
    ∷ closes (sent (Replacement 91) []) (key (4 ∷ 4 ∷ []))
    ∷ []
    ≡ true ∷ true ∷ false ∷ false ∷ true ∷ false ∷ []
unfolding sent line closes named_by key country_of_key country digits_of_key
closed = refl

closing_days :
    closing 7 (sent Partial (line (9 ∷ 1 ∷ []) Blocked 121 ∷ []))
    ∷ closing 7 (sent (Replacement 91) (line (9 ∷ 1 ∷ []) Blocked 121 ∷ []))
    ∷ closing 7 (sent (Replacement 91) (line (9 ∷ 1 ∷ []) Blocked 0 ∷ []))
    ∷ []
    ≡ 107 ∷ 120 ∷ 107 ∷ []
unfolding sent line closing
closing_days = refl
