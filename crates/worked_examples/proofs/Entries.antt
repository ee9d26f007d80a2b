-- The change days of P1, P2 and P4, entry by entry: one, two and five. Assumes nothing.
use mathlib.Core.Path.{◌≡◌, refl, ap, sym, ◌∙◌, subst}
use mathlib.Core.Bool.{Bool, true, false, cond}
use mathlib.Core.List.{List, [], ◌∷◌}
use Prim.Native.Nat.{ℕ}
use native.Mathlib.Omega.{arith}
use borrow.Author.Tests.{eqb-true}
use lib.Dec.{eqb, leb}
use Rattle.varint.specs.Reading.{read_number}
use Rattle.dial_code.specs.Digits.{digits}
use Rattle.dial_code.specs.Key.{key, digits_of_key}
use Rattle.country_code.specs.CountryCode.{country, country_of_key}
use Rattle.allowed_code.specs.Code.{is_code, is_code_key}
use Rattle.rate.specs.Price.{rate, price_of}
use Rattle.rate.specs.OfferWord.{word_of, offer_of}
use Rattle.rate.specs.declared.Offer.{Offer}
use Rattle.rate.specs.declared.Offer.TheVariants.{Closed, Open}
use Rattle.varint.specs.Ranged.{read_ranged}
use Rattle.line_terms.specs.TermsRule.{read_increments, read_rate, read_terms}
use Rattle.line_code.specs.CodeRule.{code_field, read_code}
use Rattle.notice_line.specs.LineRule.{line_of, listed_field, read_listed, read_line}
use Rattle.notice_header.specs.HeaderRule.{is_country_code, read_country, read_kind, read_dated, read_header}
use Rattle.notice.specs.NoticeRule.{Notice}
use Rattle.notice.specs.NoticeRule.{read_lines, read_notice}
use Rattle.notice_header.specs.declared.Kind.TheVariants.{Partial, Update}
use Rattle.std.proofs.Common.{Ok}
use Rattle.notice_line.specs.declared.Line.{Line}
use Rattle.book_words.specs.Layout.{entry}
use Rattle.book.specs.Soundness.{sound_entries}
use Rattle.book.specs.Status.{status_in}
use Rattle.longest_match.specs.Match.{matched}
use Rattle.book_words.specs.declared.Entry.{Entry}
use Rattle.book.proofs.SoundLists.{to_sound}
use Rattle.book.proofs.Unique.{unique}
use Rattle.history.specs.Effect.{Known, unlisted, from, nothing, changed, some_earlier, effective, line_for, named_by}
use Rattle.history.specs.Effect.{closes, closing, change_of, latest_effective, after_notice}
use Rattle.history.specs.ChangeDays.{change_days}
use Rattle.history.specs.Machine.{known, unknown, words}
use Rattle.history.proofs.ChangeLaws.{status_back, changes_are_sound}
use Rattle.history.proofs.Keeping.{Standing, closed_in_range, good, keeps}
use Rattle.history.proofs.Books.{admissible}
use Rattle.worked_examples.specs.Sent.{p1, p2, p4, notices_of}

-- Sound entries that give every status of what stands are its change days.
entries_so :
    (k : Known)
    → Standing k
    → (es : List Entry)
    → sound_entries es ≡ true
    → ((x d : ℕ) → status_in es x d ≡ words k x d)
    → change_days (words k) ≡ es
entries_so k s es h e =
    unique (change_days (words k)) es
    (to_sound (change_days (words k)) (changes_are_sound (words k) (admissible k s)))
    (to_sound es h)
    (λ x d. status_back (words k) (admissible k s) x d ∙ sym (e x d))

nothing_standing : Standing unknown
nothing_standing =
    record { offers = λ x d. closed_in_range; closed = λ x d e. refl; last = λ x d h. refl; latest = omega arith }

-- A code that is closed and not listed stays closed.
stays_closed :
    (period : ℕ) (before : Known) (n : Notice) (x d : ℕ)
    → line_for x n.lines ≡ unlisted
    → before.status x d ≡ Closed
    → (after_notice period before n).status x d ≡ Closed
unfolding change_of
stays_closed period before n x d u c = rw (u, c) (go (closes n x))
  where
    at_once : (t : Bool) → ◌≡◌ {A = Offer} (cond t Closed Closed) Closed
    at_once true = refl
    at_once false = refl

    go : (t : Bool) → changed (cond t (from (closing period n) Closed) nothing) d Closed ≡ Closed
    go true = at_once (leb (closing period n) d)
    go false = refl

-- The notices as data.
abbrev pub k2348 : ℕ
k2348 = key (2 ∷ 3 ∷ 4 ∷ 8 ∷ [])

abbrev pub k23480 : ℕ
k23480 = key (2 ∷ 3 ∷ 4 ∷ 8 ∷ 0 ∷ [])

abbrev pub k234806 : ℕ
k234806 = key (2 ∷ 3 ∷ 4 ∷ 8 ∷ 0 ∷ 6 ∷ [])

abbrev pub line2348 : Line
line2348 = line_of k2348 (Open (rate 8000000) 1 1) 0

abbrev pub line23480 : Line
line23480 = line_of k23480 (Open (rate 9000000) 1 1) 0

abbrev pub line234806 : Line
line234806 = line_of k234806 (Open (rate 13000000) 1 1) 0

abbrev pub n1 : Notice
n1 = record { kind = Update; received = 100; lines = line23480 ∷ [] }

abbrev pub n2 : Notice
n2 = record { kind = Update; received = 100; lines = line23480 ∷ line234806 ∷ [] }

abbrev pub n4 : Notice
n4 = record { kind = Partial; received = 110; lines = line2348 ∷ [] }

pub reads1 : read_notice p1 ≡ Ok n1
unfolding p1 read_notice read_header read_dated read_kind read_country is_country_code read_lines read_line read_code code_field read_terms
    read_rate read_increments read_listed listed_field read_ranged read_number key digits is_code country price_of
reads1 = refl

pub reads2 : read_notice p2 ≡ Ok n2
unfolding p2 read_notice read_header read_dated read_kind read_country is_country_code read_lines read_line read_code code_field read_terms
    read_rate read_increments read_listed listed_field read_ranged read_number key digits is_code country price_of
reads2 = refl

pub reads4 : read_notice p4 ≡ Ok n4
unfolding p4 read_notice read_header read_dated read_kind read_country is_country_code read_lines read_line read_code code_field read_terms
    read_rate read_increments read_listed listed_field read_ranged read_number key digits is_code country price_of
reads4 = refl

-- The words of a code that opens on a day, and of one that is closed again on another.
opens : (w : ℕ) (o : Offer) → word_of o ≡ w → (t : Bool) → cond t w 0 ≡ word_of (cond t o Closed)
unfolding word_of
opens w o e true = sym e
opens w o e false = refl

closes_again : (w : ℕ) (o : Offer) → word_of o ≡ w → (t u : Bool)
    → cond u 0 (cond t w 0) ≡ word_of (cond u Closed (cond t o Closed))
unfolding word_of
closes_again w o e t true = refl
closes_again w o e t false = opens w o e t

word_of_closed : word_of Closed ≡ 0
unfolding word_of
word_of_closed = refl

-- P1.

abbrev pub entries1 : List Entry
entries1 = entry k23480 100 589824000259 ∷ []

abbrev pub known1 : Known
known1 = known 7 (n1 ∷ [])

sound1 : sound_entries entries1 ≡ true
unfolding sound_entries is_code_key key offer_of digits_of_key is_code
sound1 = refl

at1 : (d : ℕ) → status_in entries1 k23480 d ≡ words known1 k23480 d
unfolding status_in known change_of effective some_earlier line_for named_by closes closing latest_effective country_of_key country
    digits_of_key key matched word_of
at1 d = opens 589824000259 (Open (rate 9000000) 1 1) refl (leb 100 d)

same1 : (x d : ℕ) → status_in entries1 x d ≡ words known1 x d
unfolding status_in known line_for
same1 x d = go (eqb k23480 x) refl
  where
    go : (a : Bool) → eqb k23480 x ≡ a → status_in entries1 x d ≡ words known1 x d
    go true p = subst (λ (y : ℕ). status_in entries1 y d ≡ words known1 y d) (eqb-true _ _ p) (at1 d)
    go false p = rw p (sym (ap word_of (stays_closed 7 unknown n1 x d (rw p) refl) ∙ word_of_closed))

pub known_entries1 : change_days (words known1) ≡ entries1
unfolding known
known_entries1 =
    entries_so known1 (keeps 7 (omega arith) unknown n1 (good p1 n1 reads1) nothing_standing) entries1 sound1 same1

pub p1_entries : change_days (words (known 7 (notices_of (p1 ∷ [])))) ≡ entries1
unfolding notices_of
p1_entries = rw reads1 known_entries1

-- P2.

abbrev pub entries2 : List Entry
entries2 = entry k23480 100 589824000259 ∷ entry k234806 100 851968000259 ∷ []

abbrev pub known2 : Known
known2 = known 7 (n2 ∷ [])

standing2 : Standing known2
unfolding known
standing2 = keeps 7 (omega arith) unknown n2 (good p2 n2 reads2) nothing_standing

sound2 : sound_entries entries2 ≡ true
unfolding sound_entries is_code_key key offer_of digits_of_key is_code
sound2 = refl

at2 : (d : ℕ)
    → (status_in entries2 k23480 d ≡ words known2 k23480 d) × (status_in entries2 k234806 d ≡ words known2 k234806 d)
unfolding status_in known change_of effective some_earlier line_for named_by closes closing latest_effective country_of_key country
    digits_of_key key matched word_of
at2 d = (
  opens 589824000259 (Open (rate 9000000) 1 1) refl (leb 100 d),
  opens 851968000259 (Open (rate 13000000) 1 1) refl (leb 100 d),
)

-- a code that P2 does not list
other2 : (x d : ℕ) → eqb k23480 x ≡ false → eqb k234806 x ≡ false → known2.status x d ≡ Closed
unfolding known line_for
other2 x d p q = stays_closed 7 unknown n2 x d (rw (p, q)) refl

same2 : (x d : ℕ) → status_in entries2 x d ≡ words known2 x d
unfolding status_in
same2 x d = go (eqb k23480 x) refl (eqb k234806 x) refl
  where
    go : (a : Bool) → eqb k23480 x ≡ a → (b : Bool) → eqb k234806 x ≡ b → status_in entries2 x d ≡ words known2 x d
    go true p b q = subst (λ (y : ℕ). status_in entries2 y d ≡ words known2 y d) (eqb-true _ _ p) (at2 d).0
    go false p true q = subst (λ (y : ℕ). status_in entries2 y d ≡ words known2 y d) (eqb-true _ _ q) (at2 d).1
    go false p false q = rw (p, q) (sym (ap word_of (other2 x d p q) ∙ word_of_closed))

pub known_entries2 : change_days (words known2) ≡ entries2
known_entries2 = entries_so known2 standing2 entries2 sound2 same2

pub p2_entries : change_days (words (known 7 (notices_of (p2 ∷ [])))) ≡ entries2
unfolding notices_of
p2_entries = rw reads2 known_entries2

-- P4.

abbrev pub entries4 : List Entry
entries4 =
    entry k2348 110 524288000259
    ∷ entry k23480 100 589824000259
    ∷ entry k23480 117 0
    ∷ entry k234806 100 851968000259
    ∷ entry k234806 117 0
    ∷ []

abbrev pub known4 : Known
known4 = known 7 (n4 ∷ n2 ∷ [])

standing4 : Standing known4
unfolding known
standing4 = keeps 7 (omega arith) known2 n4 (good p4 n4 reads4) standing2

sound4 : sound_entries entries4 ≡ true
unfolding sound_entries is_code_key key offer_of digits_of_key is_code
sound4 = refl

at4 : (d : ℕ)
    → (status_in entries4 k2348 d ≡ words known4 k2348 d)
    × (status_in entries4 k23480 d ≡ words known4 k23480 d)
    × (status_in entries4 k234806 d ≡ words known4 k234806 d)
unfolding status_in known change_of effective some_earlier line_for named_by closes closing latest_effective country_of_key country
    digits_of_key key matched word_of
at4 d = (
  opens 524288000259 (Open (rate 8000000) 1 1) refl (leb 110 d),
  closes_again 589824000259 (Open (rate 9000000) 1 1) refl (leb 100 d) (leb 117 d),
  closes_again 851968000259 (Open (rate 13000000) 1 1) refl (leb 100 d) (leb 117 d),
)

same4 : (x d : ℕ) → status_in entries4 x d ≡ words known4 x d
unfolding status_in known line_for
same4 x d = go (eqb k2348 x) refl (eqb k23480 x) refl (eqb k234806 x) refl
  where
    go : (a : Bool) → eqb k2348 x ≡ a → (b : Bool) → eqb k23480 x ≡ b → (c : Bool) → eqb k234806 x ≡ c
        → status_in entries4 x d ≡ words known4 x d
    go true p b q c r = subst (λ (y : ℕ). status_in entries4 y d ≡ words known4 y d) (eqb-true _ _ p) (at4 d).0
    go false p true q c r = subst (λ (y : ℕ). status_in entries4 y d ≡ words known4 y d) (eqb-true _ _ q) (at4 d).1
    go false p false q true r = subst (λ (y : ℕ). status_in entries4 y d ≡ words known4 y d) (eqb-true _ _ r) (at4 d).2
    go false p false q false r =
        rw (p, q, r) (sym (ap word_of (stays_closed 7 known2 n4 x d (rw p) (other2 x d q r)) ∙ word_of_closed))

pub known_entries4 : change_days (words known4) ≡ entries4
known_entries4 = entries_so known4 standing4 entries4 sound4 same4

pub p4_entries : change_days (words (known 7 (notices_of (p4 ∷ p2 ∷ [])))) ≡ entries4
unfolding notices_of
p4_entries = rw (reads2, reads4) known_entries4
