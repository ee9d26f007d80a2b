-- P1, P2 and P4 applied to books: what the applies answer and how many entries the new book must hold. Assumes nothing.
use mathlib.Core.Path.{◌≡◌, refl, ap, ◌∙◌}
use mathlib.Core.Bool.{true}
use mathlib.Core.List.{List, [], ◌∷◌, map}
use Prim.Native.Nat.{ℕ, ◌+◌, ◌*◌, ◌≤◌, ◌<◌}
use native.Mathlib.Omega.{arith}
use borrow.Author.Tests.{le-ltb, le-leb}
use lib.ListN.{length}
use Rattle.varint.specs.Reading.{read_number}
use Rattle.dial_code.specs.Digits.{digit_of, is_dialled}
use Rattle.dial_code.specs.Key.{key, digits_of_key}
use Rattle.country_code.specs.CountryCode.{country, country_of_key}
use Rattle.rate.specs.Price.{rate}
use Rattle.calendar.specs.declared.Day.{Day}
use Rattle.charging.specs.Charging.{charge_of}
use Rattle.rate.specs.declared.Offer.TheVariants.{Closed, Open}
use Rattle.notice.specs.NoticeRule.{Notice, read_notice}
use Rattle.notice_header.specs.HeaderRule.{read_header}
use Rattle.book_words.specs.Layout.{header_words, entry_words, held}
use Rattle.longest_match.specs.Match.{answer, matched}
use Rattle.book.specs.Answers.{fresh_answer, fresh_book}
use Rattle.lookup.specs.Lookup.{lookup}
use Rattle.book_words.proofs.BookWords.{held_fits, fits_held}
use Rattle.history.specs.Effect.{some_earlier, effective, line_for, named_by, closes, closing, change_of, latest_effective}
use Rattle.history.specs.Machine.{known, answers, answer_of}
use Rattle.history.specs.Applying.{apply_notice, apply_answer}
use Rattle.history.specs.Claim.{with_notice, Apply, accepts, accepted_by, book_left}
use Rattle.history.proofs.Space.{machine_taken}
use Rattle.history.proofs.Theorem.{same_answer, fresh_linked, claim}
use Rattle.history.proofs.Corollaries.{fresh_full_exactly, fresh_taken_exactly, fresh_accepted_answer}
use Rattle.worked_examples.specs.Sent.{p1, p2, p4}
use Rattle.worked_examples.proofs.Entries.{k2348, k234806, n1, n2, n4, reads1, reads2, reads4}
use Rattle.worked_examples.proofs.Entries.{known_entries1, known_entries2, known_entries4}
use Rattle.refusal.specs.declared.Refusal.TheVariants.{BookFull, BytesEnd, NoOffer}
use Rattle.std.proofs.Common.{Ok, Err}

abbrev pub apply : List ℕ → List ℕ → Apply
apply bytes new = record { bytes = bytes; new = new }

-- a fresh book with the words of a header, of notice period 7, is not refused
fresh_taken : (start : ℕ) → header_words ≤ start → fresh_answer start 7 ≡ Ok tt
unfolding fresh_answer
fresh_taken start h = rw (le-ltb start header_words h)

-- 234806121212 as it is dialled, and its digits
abbrev pub dialled : List ℕ
dialled = 50 ∷ 51 ∷ 52 ∷ 56 ∷ 48 ∷ 54 ∷ 49 ∷ 50 ∷ 49 ∷ 50 ∷ 49 ∷ 50 ∷ []

abbrev pub day : ℕ → Day
day d = record { 0 = d }

is_dialled_law : is_dialled dialled ≡ true
unfolding is_dialled
is_dialled_law = refl

-- what the machine answers for it
machine2 : (answer_of 7 (n2 ∷ []) (map digit_of dialled) 99 ≡ answer 0 Closed)
    × (answer_of 7 (n2 ∷ []) (map digit_of dialled) 100 ≡ answer k234806 (Open (rate 13000000) 1 1))
unfolding known change_of effective some_earlier line_for named_by closes closing latest_effective country_of_key country digits_of_key key
    matched
machine2 = (refl, refl)

machine4 : (answer_of 7 (n4 ∷ n2 ∷ []) (map digit_of dialled) 116 ≡ answer k234806 (Open (rate 13000000) 1 1))
    × (answer_of 7 (n4 ∷ n2 ∷ []) (map digit_of dialled) 117 ≡ answer k2348 (Open (rate 8000000) 1 1))
unfolding known change_of effective some_earlier line_for named_by closes closing latest_effective country_of_key country digits_of_key key
    matched
machine4 = (refl, refl)

-- P3: a call of any duration on day 99 gives 43.
pub p3_call :
    (duration : ℕ)
    → duration ≤ 604800
    → charge_of (answer_of 7 (n2 ∷ []) (map digit_of dialled) 99).offer duration ≡ Err NoOffer
unfolding charge_of
p3_call duration h = rw (machine2.0, le-leb duration 604800 h)

-- no bytes do not read
unread_empty : (len : ℕ) → header_words ≤ len → answers 7 [] [] len ≡ Err BytesEnd
unfolding answers read_notice read_header read_number
unread_empty len h = rw (le-ltb len header_words h)

-- an accepted notice is appended
one_more :
    (older : List Notice) (n : Notice) (bytes new : List ℕ)
    → answers 7 older bytes (length new) ≡ Ok n
    → accepts 7 older (apply bytes new) ≡ n ∷ older
unfolding accepts
one_more older n bytes new e = ap (with_notice older) e

-- the latest effective days
latest1 : (known 7 (n1 ∷ [])).latest ≡ 100
unfolding known change_of effective some_earlier line_for named_by closes closing latest_effective country_of_key country digits_of_key key
    matched
latest1 = refl

latest4 : (known 7 (n4 ∷ n2 ∷ [])).latest ≡ 110
unfolding known change_of effective some_earlier line_for named_by closes closing latest_effective country_of_key country digits_of_key key
    matched
latest4 = refl

module _ (start : ℕ) (s : header_words ≤ start) (new : List ℕ) where
  -- P1 in a fresh book answers 0 1 100 100, wherever the new book holds its entry.
  p1_taken : header_words + entry_words ≤ length new → apply_notice (fresh_book start 7) p1 (length new) ≡ Ok n1
  unfolding book_left accepted_by
  p1_taken l =
      (fresh_taken_exactly start 7 (fresh_taken start s) [] p1 (length new) n1).1
      (omega arith, reads1, omega arith, rw known_entries1 (fits_held 1 (length new) (omega arith) (omega arith) l))

  pub p1_answer :
      header_words + entry_words ≤ length new
      → apply_answer (fresh_book start 7) p1 (length new) ≡ Ok (record { entries = 1; received = 100; latest = 100 })
  unfolding book_left accepted_by
  p1_answer l =
      fresh_accepted_answer start 7 (fresh_taken start s) [] (apply p1 new) n1 (p1_taken l)
      ∙ (λ i. Ok (record { entries = length (known_entries1 i); received = 100; latest = latest1 i }))

  -- No bytes answer 1 0 0 0.
  pub no_input :
      header_words ≤ length new
      → apply_answer (fresh_book start 7) [] (length new) ≡ Err BytesEnd
  unfolding apply_answer
  no_input l = rw refused
    where
      refused : apply_notice (fresh_book start 7) [] (length new) ≡ Err BytesEnd
      refused =
          same_answer (fresh_book start 7) 7 [] (fresh_linked start 7 (fresh_taken start s)) [] (length new)
          ∙ unread_empty (length new) l

-- P4 after P2, from a fresh book, where the new book of P2 holds its two entries.
module _ (start : ℕ) (s : header_words ≤ start) (new2 : List ℕ) (l2 : header_words + 2 * entry_words ≤ length new2) where
  abbrev pub after2 : List ℕ
  after2 = book_left (fresh_book start 7) (apply p2 new2 ∷ [])

  p2_taken : answers 7 [] p2 (length new2) ≡ Ok n2
  p2_taken =
      (machine_taken 7 [] p2 (length new2) n2).1
      (omega arith, reads2, omega arith, rw known_entries2 (fits_held 2 (length new2) (omega arith) (omega arith) l2))

  p2_accepted : accepted_by 7 [] (apply p2 new2 ∷ []) ≡ n2 ∷ []
  unfolding accepted_by
  p2_accepted = one_more [] n2 p2 new2 p2_taken

  -- P4 is taken wherever the new book holds five entries, and answers 0 5 110 110.
  p4_taken : (len : ℕ) → header_words + 5 * entry_words ≤ len → apply_notice after2 p4 len ≡ Ok n4
  p4_taken len h =
      (fresh_taken_exactly start 7 (fresh_taken start s) (apply p2 new2 ∷ []) p4 len n4).1 (
        omega arith,
        reads4,
        rw p2_accepted (omega arith),
        rw (p2_accepted, known_entries4) (fits_held 5 len (omega arith) (omega arith) h),
      )

  pub p4_answer :
      (new4 : List ℕ)
      → header_words + 5 * entry_words ≤ length new4
      → apply_answer after2 p4 (length new4) ≡ Ok (record { entries = 5; received = 110; latest = 110 })
  p4_answer new4 h =
      fresh_accepted_answer start 7 (fresh_taken start s) (apply p2 new2 ∷ []) (apply p4 new4) n4
      (p4_taken (length new4) h)
      ∙ rw p2_accepted (λ i. Ok (record { entries = length (known_entries4 i); received = 110; latest = latest4 i }))

  -- With room for four entries it gives 30.
  pub p4_full : (len : ℕ) → header_words ≤ len → len < header_words + 5 * entry_words → apply_notice after2 p4 len ≡ Err BookFull
  p4_full len l h =
      (fresh_full_exactly start 7 (fresh_taken start s) (apply p2 new2 ∷ []) p4 len).1 (
        n4,
        l,
        reads4,
        rw p2_accepted (omega arith),
        rw (p2_accepted, known_entries4) (omega (arith, held_fits (held len) len l (omega arith))),
      )

  -- The lookups: P2 on 100, P3 on 99.
  pub p2_lookup : lookup after2 dialled (day 100) ≡ Ok (answer k234806 (Open (rate 13000000) 1 1))
  p2_lookup =
      (claim start 7 (fresh_taken start s) (apply p2 new2 ∷ [])).lookups dialled (day 100) is_dialled_law refl
      ∙ rw (p2_accepted, machine2.1)

  pub p3_lookup : lookup after2 dialled (day 99) ≡ Ok (answer 0 Closed)
  p3_lookup =
      (claim start 7 (fresh_taken start s) (apply p2 new2 ∷ [])).lookups dialled (day 99) is_dialled_law refl
      ∙ rw (p2_accepted, machine2.0)

  module _ (new4 : List ℕ) (l4 : header_words + 5 * entry_words ≤ length new4) where
    abbrev pub both : List Apply
    both = apply p2 new2 ∷ apply p4 new4 ∷ []

    p4_accepted : accepted_by 7 [] both ≡ n4 ∷ n2 ∷ []
    unfolding accepted_by
    p4_accepted =
        ap (λ (ns : List Notice). accepts 7 ns (apply p4 new4)) p2_accepted
        ∙ one_more (n2 ∷ []) n4 p4 new4
        ((machine_taken 7 (n2 ∷ []) p4 (length new4) n4).1
        (omega arith, reads4, omega arith, rw known_entries4 (fits_held 5 (length new4) (omega arith) (omega arith) l4)))

    -- P4 on 116 and on 117.
    pub p4_lookups :
        (lookup (book_left (fresh_book start 7) both) dialled (day 116) ≡ Ok (answer k234806 (Open (rate 13000000) 1 1)))
        × (lookup (book_left (fresh_book start 7) both) dialled (day 117) ≡ Ok (answer k2348 (Open (rate 8000000) 1 1)))
    p4_lookups =
        let c = claim start 7 (fresh_taken start s) both in (
          c.lookups dialled (day 116) is_dialled_law refl ∙ rw (p4_accepted, machine4.0),
          c.lookups dialled (day 117) is_dialled_law refl ∙ rw (p4_accepted, machine4.1),
        )
