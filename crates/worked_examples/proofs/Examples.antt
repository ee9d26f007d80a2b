-- Document 01's proved examples P1 to P11 as one list, worked by the rules from the notices' bytes: notice period 7, increments
-- 1/1. Assumes nothing.
use mathlib.Core.Path.{◌≡◌, refl, ap, ap₂, ◌∙◌}
use mathlib.Core.List.{List, [], ◌∷◌}
use Prim.Native.Nat.{ℕ}
use Rattle.varint.specs.Reading.{read_number}
use Rattle.dial_code.specs.Digits.{digits}
use Rattle.dial_code.specs.Key.{key, digits_of_key}
use Rattle.country_code.specs.CountryCode.{country, country_of_key}
use Rattle.allowed_code.specs.Code.{is_code}
use Rattle.rate.specs.Price.{rate, price_of}
use Rattle.rate.specs.OfferWord.{word_of}
use Rattle.charging.specs.Charging.{charge_of}
use Rattle.rate.specs.declared.Offer.{Offer}
use Rattle.rate.specs.declared.Offer.TheVariants.{Closed, Open}
use Rattle.rate.specs.declared.Price.{Price}
use Rattle.rate.specs.declared.Price.TheVariants as price_is
use Rattle.varint.specs.Ranged.{read_ranged}
use Rattle.line_terms.specs.TermsRule.{read_increments, read_rate, read_terms}
use Rattle.line_code.specs.CodeRule.{code_field, read_code}
use Rattle.notice_line.specs.LineRule.{line_of, listed_field, read_listed, read_line}
use Rattle.notice_header.specs.HeaderRule.{is_country_code, read_country, read_kind, read_dated, read_header}
use Rattle.notice.specs.NoticeRule.{Reading}
use Rattle.notice_header.specs.declared.Kind.{Kind}
use Rattle.notice_header.specs.declared.Kind.TheVariants.{Partial, Update}
use Rattle.charging.specs.Charging.{charged}
use Rattle.charging.specs.declared.Charged.{Charged}
use Rattle.notice.specs.NoticeRule.{read_lines, read_notice}
use Rattle.notice_line.specs.declared.Line.{Line}
use Rattle.book_words.specs.Layout.{entry}
use Rattle.longest_match.specs.Match.{answer, matched}
use Rattle.longest_match.specs.declared.Answer.{Answer}
use Rattle.book_words.specs.declared.Entry.{Entry}
use Rattle.history.specs.Effect.{some_earlier, effective, line_for, named_by, closes, closing, change_of, latest_effective}
use Rattle.history.specs.ChangeDays.{change_days}
use Rattle.history.specs.Machine.{known, words, answer_of}
use Rattle.worked_examples.specs.Sent.{p1, p2, p2_alone, p4, p5_first, p5_second, p5_third, p6_first, p6_second, notices_of}
use Rattle.worked_examples.proofs.Entries.{k2348, k23480, k234806, entries1, entries2, entries4}
use Rattle.worked_examples.proofs.Entries.{p1_entries, p2_entries, p4_entries}
use Rattle.refusal.specs.declared.Refusal.TheVariants.{NoOffer, NotShortest}
use Rattle.refusal.specs.Steps.{Read, ok_at}
use Rattle.refusal.specs.declared.Refusal.{Refusal}
use Rattle.std.proofs.Common.{Result, Ok, Err, Option, Some}

-- What an example tells: what bytes read as, the offer word of a code, the answer to a number, change days, what a call is
-- charged, what a rate comes to, what a number in groups of seven bits is.
pub data Told : Type 0 where
  reading : Reading → Told
  word : ℕ → Told
  found : Answer → Told
  changes : List Entry → Told
  charge : Result Charged Refusal → Told
  price : Option Price → Told
  number : Read ℕ → Told

abbrev opened : ℕ → Offer
opened r = Open (rate r) 1 1

-- code 91, and the number 234806121212
abbrev k91 : ℕ
k91 = key (9 ∷ 1 ∷ [])

abbrev called : List ℕ
called = 2 ∷ 3 ∷ 4 ∷ 8 ∷ 0 ∷ 6 ∷ 1 ∷ 2 ∷ 1 ∷ 2 ∷ 1 ∷ 2 ∷ []

-- The answer to a number on a day, and the status of a code, after some notices, the last notice first.
unfoldable pub answer_after : List (List ℕ) → List ℕ → ℕ → Answer
answer_after notices ds day = answer_of 7 (notices_of notices) ds day

unfoldable pub status_after : List (List ℕ) → ℕ → ℕ → Offer
status_after notices k day = (known 7 (notices_of notices)).status k day

abbrev sent : Kind → ℕ → List Line → Reading
sent kind received ls = Ok (record { kind = kind; received = received; lines = ls })

-- The change days after some notices: the entries of a book that holds them.
abbrev changes_after : List (List ℕ) → List Entry
changes_after notices = change_days (words (known 7 (notices_of notices)))

-- The examples, with the change days of P1, P2 and P4 as they are given.
unfoldable pub worked_with : List Entry → List Entry → List Entry → List Told
worked_with after1 after2 after4 =
    -- P1: it reads; the offer word of 23480 on days 99 and 100
    reading (read_notice p1)
    ∷ word (word_of (status_after (p1 ∷ []) k23480 99))
    ∷ word (word_of (status_after (p1 ∷ []) k23480 100))
    ∷ changes after1
    -- P2: in one notice the second line is effective on 100; by itself as a second update of that day on 107
    ∷ reading (read_notice p2)
    ∷ reading (read_notice p2_alone)
    ∷ found (answer_after (p2 ∷ []) called 100)
    ∷ changes after2
    ∷ found (answer_after (p2_alone ∷ p1 ∷ []) called 106)
    ∷ found (answer_after (p2_alone ∷ p1 ∷ []) called 107)
    -- P3: a call on day 99
    ∷ found (answer_after (p2 ∷ []) called 99)
    ∷ charge (charge_of (answer_after (p2 ∷ []) called 99).offer 60)
    -- P4: it reads; that number on 116 and 117; five entries
    ∷ reading (read_notice p4)
    ∷ found (answer_after (p4 ∷ p2 ∷ []) called 116)
    ∷ found (answer_after (p4 ∷ p2 ∷ []) called 117)
    ∷ changes after4
    -- P5: 91 on 26, 27, 32, 33
    ∷ reading (read_notice p5_first)
    ∷ reading (read_notice p5_second)
    ∷ reading (read_notice p5_third)
    ∷ found (answer_after (p5_third ∷ p5_second ∷ p5_first ∷ []) (9 ∷ 1 ∷ []) 26)
    ∷ found (answer_after (p5_third ∷ p5_second ∷ p5_first ∷ []) (9 ∷ 1 ∷ []) 27)
    ∷ found (answer_after (p5_third ∷ p5_second ∷ p5_first ∷ []) (9 ∷ 1 ∷ []) 32)
    ∷ found (answer_after (p5_third ∷ p5_second ∷ p5_first ∷ []) (9 ∷ 1 ∷ []) 33)
    -- P6: 7903797979 once 79 is effective, and 7979
    ∷ reading (read_notice p6_first)
    ∷ reading (read_notice p6_second)
    ∷ found (answer_after (p6_second ∷ p6_first ∷ []) (7 ∷ 9 ∷ 0 ∷ 3 ∷ 7 ∷ 9 ∷ 7 ∷ 9 ∷ 7 ∷ 9 ∷ []) 20)
    ∷ found (answer_after (p6_second ∷ p6_first ∷ []) (7 ∷ 9 ∷ 7 ∷ 9 ∷ []) 20)
    -- P7, P8: 0.945046784, 9.990000004, 9.990000005
    ∷ price (price_of 945046784 9)
    ∷ price (price_of 9990000004 9)
    ∷ price (price_of 9990000005 9)
    -- P9, P10: 0.13 for 61 s at 1/1 and 60/60, for 31 s at 30/6
    ∷ charge (charge_of (Open (rate 13000000) 1 1) 61)
    ∷ charge (charge_of (Open (rate 13000000) 60 60) 61)
    ∷ charge (charge_of (Open (rate 13000000) 30 6) 31)
    -- P11: AC 02, 80 00
    ∷ number (read_number (0xAC ∷ 0x02 ∷ []) 0)
    ∷ number (read_number (0x80 ∷ 0x00 ∷ []) 0)
    ∷ []

-- The examples worked by the rules, and what document 01 says of them.
unfoldable pub worked : List Told
worked = worked_with (changes_after (p1 ∷ [])) (changes_after (p2 ∷ [])) (changes_after (p4 ∷ p2 ∷ []))

unfoldable pub expected : List Told
expected =
    reading (sent Update 100 (line_of k23480 (opened 9000000) 0 ∷ []))
    ∷ word 0
    ∷ word 589824000259
    ∷ changes (entry k23480 100 589824000259 ∷ [])
    ∷ reading (sent Update 100 (line_of k23480 (opened 9000000) 0 ∷ line_of k234806 (opened 13000000) 0 ∷ []))
    ∷ reading (sent Update 100 (line_of k234806 (opened 13000000) 0 ∷ []))
    ∷ found (answer k234806 (opened 13000000))
    ∷ changes (entry k23480 100 589824000259 ∷ entry k234806 100 851968000259 ∷ [])
    ∷ found (answer k23480 (opened 9000000))
    ∷ found (answer k234806 (opened 13000000))
    ∷ found (answer 0 Closed)
    ∷ charge (Err NoOffer)
    ∷ reading (sent Partial 110 (line_of k2348 (opened 8000000) 0 ∷ []))
    ∷ found (answer k234806 (opened 13000000))
    ∷ found (answer k2348 (opened 8000000))
    ∷ changes
    (entry k2348 110 524288000259
    ∷ entry k23480 100 589824000259
    ∷ entry k23480 117 0
    ∷ entry k234806 100 851968000259
    ∷ entry k234806 117 0
    ∷ [])
    ∷ reading (sent Update 10 (line_of k91 (opened 1000000) 0 ∷ []))
    ∷ reading (sent Update 20 (line_of k91 (opened 2000000) 28 ∷ []))
    ∷ reading (sent Update 26 (line_of k91 (opened 500000) 27 ∷ []))
    ∷ found (answer k91 (opened 1000000))
    ∷ found (answer k91 (opened 2000000))
    ∷ found (answer k91 (opened 2000000))
    ∷ found (answer k91 (opened 500000))
    ∷ reading (sent Update 10 (line_of (key (7 ∷ 9 ∷ 0 ∷ 3 ∷ [])) (opened 4000000) 0 ∷ []))
    ∷ reading (sent Update 20 (line_of (key (7 ∷ 9 ∷ [])) (opened 6000000) 0 ∷ []))
    ∷ found (answer (key (7 ∷ 9 ∷ 0 ∷ 3 ∷ [])) (opened 4000000))
    ∷ found (answer (key (7 ∷ 9 ∷ [])) (opened 6000000))
    ∷ price (Some (price_is.Open (rate 94504678)))
    ∷ price (Some (price_is.Open (rate 999000000)))
    ∷ price (Some price_is.Block)
    ∷ charge (Ok (charged 61 13216667))
    ∷ charge (Ok (charged 120 26000000))
    ∷ charge (Ok (charged 36 7800000))
    ∷ number (ok_at 300 2)
    ∷ number (Err NotShortest)
    ∷ []

computed : worked_with entries1 entries2 entries4 ≡ expected
unfolding worked_with expected answer_after status_after p1 p2 p2_alone p4 p5_first p5_second p5_third p6_first p6_second notices_of
    read_notice read_header read_dated read_kind read_country is_country_code read_lines read_line read_code code_field read_terms read_rate
    read_increments read_listed listed_field read_ranged read_number key digits digits_of_key is_code country country_of_key price_of word_of
    charge_of known change_of effective some_earlier line_for named_by closes closing latest_effective matched
computed = refl

-- P1 to P11.
pub vectors : worked ≡ expected
unfolding worked
vectors =
    ap (λ (es : List Entry). worked_with es (changes_after (p2 ∷ [])) (changes_after (p4 ∷ p2 ∷ []))) p1_entries
    ∙ ap₂ (worked_with entries1) p2_entries p4_entries
    ∙ computed
