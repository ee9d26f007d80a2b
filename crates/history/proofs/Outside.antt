-- A notice that is not full changes nothing for a number outside the countries that it names: a beginning of the number that has
-- a country has the number's, and no code of another country is listed or closed. Assumes nothing.
use mathlib.Core.Path.{◌≡◌, refl, ap, ap₂, sym, ◌∙◌}
use mathlib.Core.Bool.{Bool, true, false, cond, ◌||◌, true≢false}
use mathlib.Core.List.{List, [], ◌∷◌, map}
use mathlib.Core.Logic.{◌≢◌}
use Prim.Native.Nat.{ℕ, zero, suc, ◌≤◌}
use native.Mathlib.Omega.{arith}
use borrow.Author.Tests.{le-leb, leb-true, eq-eqb, ne_eqb}
use lib.Dec.{eqb, leb, ltb}
use lib.ListN.{length, take, length-take}
use lib.Seq.{take-take}
use Rattle.dial_code.specs.Digits.{every, is_digit, digit_of, is_dialled, value}
use Rattle.dial_code.specs.Key.{key}
use Rattle.country_code.specs.CountryCode.{one_digit, country_digits, country, country_of_key}
use Rattle.dial_code.proofs.DigitLaws.{digits_take, dialled_digits}
use Rattle.country_code.proofs.CountryLaws.{country_opens, country_of_key_law}
use Rattle.allowed_code.proofs.CodeLaws.{without_country}
use Rattle.calendar.specs.Time.{is_day}
use Rattle.calendar.specs.declared.Day.{Day}
use Rattle.rate.specs.declared.Offer.TheVariants.{Closed}
use Rattle.notice_header.specs.HeaderRule.{kind_country}
use Rattle.notice_header.specs.declared.Kind.{Kind}
use Rattle.notice_header.specs.declared.Kind.TheVariants.{Full, Partial, Update, Replacement}
use Rattle.notice.specs.NoticeRule.{Notice, read_notice}
use Rattle.notice_line.specs.declared.Line.{Line}
use Rattle.notice.proofs.LinesLaws.{ValidFrom}
use Rattle.notice.proofs.NoticeLaws.{Valid}
use Rattle.book_words.specs.Layout.{header_words, period_of, held, entries_of}
use Rattle.book.specs.Soundness.{sound}
use Rattle.longest_match.specs.Match.{matched}
use Rattle.book.specs.Answers.{check_book}
use Rattle.lookup.specs.Lookup.{lookup}
use Rattle.book.proofs.Headers.{sound_book}
use Rattle.book_words.proofs.BookWords.{entries_back}
use Rattle.book.proofs.SoundBooks.{sound_back}
use Rattle.longest_match.proofs.Matching.{status_on, matched_alike}
use Rattle.book.proofs.Usable.{usable_book, usable_sound}
use Rattle.book.specs.Status.{offer_in}
use Rattle.longest_match.specs.declared.Answer.{Answer}
use Rattle.history.specs.Effect.{Known, unlisted, Change, from, nothing, line_for, same_country, named_by, in_country, closes_as, closes}
use Rattle.history.specs.Effect.{closing, listed_change, change_of, changed}
use Rattle.history.specs.Applying.{in_book, after_book, new_entries, judged_by, apply_notice, new_book}
use Rattle.history.proofs.Keeping.{Good}
use Rattle.history.proofs.Books.{standing_book, standing_after, new_entries_sound, gives_after}
use Rattle.refusal.specs.Steps.{◌>>=◌}
use Rattle.refusal.specs.declared.Refusal.{Refusal}
use Rattle.refusal.specs.declared.Refusal.TheVariants.{BookTooShort, NotANumber, TimeOutOfRange}
use Rattle.std.proofs.Common.{Result, Ok, Err, Option, Some, None}

-- Beginnings of digit strings.

-- A beginning as long as its country code has the country code of the whole.
same_digits : (m : ℕ) (ds : List ℕ) → country_digits (take m ds) ≤ length (take m ds)
    → country_digits (take m ds) ≡ country_digits ds
unfolding country_digits
same_digits zero ds h = absurd (omega arith)
same_digits (suc m) [] h = refl
same_digits (suc zero) (a ∷ []) h = refl
same_digits (suc (suc m)) (a ∷ []) h = refl
same_digits (suc zero) (a ∷ b ∷ s) h = go (one_digit a) _ h
  where
    go : (t : Bool) (n : ℕ) → cond t 1 3 ≤ 1 → cond t 1 3 ≡ cond t 1 n
    go true n l = refl
    go false n l = absurd (omega arith)
same_digits (suc (suc m)) (a ∷ b ∷ s) h = refl

-- The country of a beginning that has one is that of the whole.
pub prefix_country : (m : ℕ) (ds : List ℕ) {c : ℕ} → country (take m ds) ≡ Some c → country ds ≡ Some c
prefix_country m ds {c} e = go (leb (country_digits (take m ds)) (length (take m ds))) refl (sym (country_opens (take m ds)) ∙ e)
  where
    go : (t : Bool) → leb (country_digits (take m ds)) (length (take m ds)) ≡ t
        → cond t (Some (value (take (country_digits (take m ds)) (take m ds)))) None ≡ Some c
        → country ds ≡ Some c
    go true p q =
        let h : country_digits (take m ds) ≤ length (take m ds) = leb-true _ _ p in
        let s : country_digits (take m ds) ≡ country_digits ds = same_digits m ds h in
        let l = length-take m ds in
        country_opens ds
        ∙ rw (
          le-leb (country_digits ds) (length ds) (omega arith),
          ← s,
          ← take-take (country_digits (take m ds)) m ds (omega arith),
        )
        q
    go false p q = let z : ◌≡◌ {A = ℕ} 0 1 = cc in absurd (omega arith)

-- A code in the country of a number's beginning.
pub beginning_country :
    (m : ℕ) (ds : List ℕ) {c : ℕ}
    → every is_digit ds ≡ true
    → length ds ≤ 15
    → country_of_key (key (take m ds)) ≡ Some c
    → country_of_key (key ds) ≡ Some c
beginning_country m ds e h p =
    let l = length-take m ds in
    country_of_key_law ds e h
    ∙ prefix_country m ds (sym (country_of_key_law (take m ds) (digits_take m ds e) (omega arith)) ∙ p)

-- Codes of countries that a notice does not name.

or_false : (a b : Bool) → (a || b) ≡ false → (a ≡ false) × (b ≡ false)
or_false true b e = absurd (true≢false e)
or_false false b e = (refl, e)

module _ (k c : ℕ) (at : country_of_key k ≡ Some c) where
  -- No line is of a code of another country.
  not_listed : (ls : List Line) → named_by ls k ≡ false → line_for k ls ≡ unlisted
  unfolding named_by line_for
  not_listed [] e = refl
  not_listed (l ∷ ls) e =
      let p = or_false (same_country (country_of_key l.key) (country_of_key k)) (named_by ls k) e in
      rw (ne_eqb l.key k (λ q. same l q p.0)) (not_listed ls p.1)
    where
      same : (l : Line) → l.key ≡ k → same_country (country_of_key l.key) (country_of_key k) ≡ false → ⊥
      same l q e =
          true≢false
          (sym (ap (λ (x : Option ℕ). same_country x (Some c)) (ap country_of_key q ∙ at) ∙ eq-eqb c c refl)
          ∙ ap (same_country (country_of_key l.key)) (sym at)
          ∙ e)

  -- The country of a replacement's lines is not that of the code.
  other_country :
      (named : ℕ) (ls : List Line)
      → 1 ≤ length ls
      → ValidFrom (Some named) None ls
      → named_by ls k ≡ false
      → in_country named (country_of_key k) ≡ false
  unfolding named_by ValidFrom
  other_country named [] h v e = absurd (omega arith)
  other_country named (l ∷ ls) h v e =
      let q : country_of_key l.key ≡ Some named = v.0.inside named refl in
      let s : eqb named c ≡ false =
      ap₂ same_country (sym q) (sym at) ∙ (or_false (same_country (country_of_key l.key) (country_of_key k)) (named_by ls k) e).0 in
      ap (in_country named) at ∙ ne_eqb c named (λ z. true≢false (sym (eq-eqb named c (sym z)) ∙ s))

  not_closed : (n : Notice) → Valid n → n.kind ≢ Full → named_by n.lines k ≡ false → closes n k ≡ false
  unfolding closes
  not_closed n v f e = go n.kind f v.lines_valid
    where
      go : (kind : Kind) → kind ≢ Full → ValidFrom (kind_country kind) None n.lines → closes_as kind n.lines k ≡ false
      go Full g w = absurd (g refl)
      go Partial g w = e
      go Update g w = refl
      go (Replacement country) g w = other_country country n.lines v.some_lines w e

  -- A notice that is not full and does not name the country of a code does nothing to it.
  pub not_changed :
      (period : ℕ) (before : Known) (n : Notice)
      → Valid n
      → n.kind ≢ Full
      → named_by n.lines k ≡ false
      → change_of period before n k ≡ nothing
  unfolding change_of
  not_changed period before n v f e =
      ap (listed_change period before n k) (not_listed n.lines e)
      ∙ ap (λ (t : Bool). cond t (from (closing period n) Closed) nothing) (not_closed n v f e)

-- Lookups.

-- a book that an apply does not refuse is sound
pub usable_old : (ws bytes : List ℕ) (len : ℕ) (n : Notice) → apply_notice ws bytes len ≡ Ok n → sound ws ≡ true
unfolding apply_notice
usable_old ws bytes len n e = usable_sound ws (go (check_book ws) refl e)
  where
    go : (r : Result (Unit {0}) Refusal) → check_book ws ≡ r
        → (r >>= λ u. cond (ltb len header_words) (Err BookTooShort) (read_notice bytes >>= λ m. judged_by ws m len)) ≡ Ok n
        → check_book ws ≡ Ok tt
    go (Ok u) p q = p
    go (Err r) p q = absurd (cc)

-- the book after an accepted notice is sound, and gives what is known after it
pub new_sound :
    (ws : List ℕ) (n : Notice) (len : ℕ)
    → sound ws ≡ true
    → Good n
    → header_words ≤ len
    → length (new_entries ws n) ≤ held len
    → sound (new_book ws len n) ≡ true
new_sound ws n len h g long fits =
    sound_back len (period_of ws) n.received (after_book ws n).latest (new_entries ws n) long fits
    (sound_book ws h).header.period_most g.received (standing_after ws n h g).latest (new_entries_sound ws n h g)

new_gives : (ws : List ℕ) (n : Notice) (len : ℕ) → sound ws ≡ true → Good n → in_book (new_book ws len n) ≡ after_book ws n
new_gives ws n len h g =
    gives_after ws n len h g (entries_back len (period_of ws) n.received (after_book ws n).latest (new_entries ws n))

named_same : (ls : List Line) (j k : ℕ) → country_of_key j ≡ country_of_key k → named_by ls j ≡ named_by ls k
unfolding named_by
named_same [] j k e = refl
named_same (l ∷ ls) j k e = rw (e, named_same ls j k e)

-- A notice that is not full changes the status of no beginning of a number outside the countries that it names: a beginning with
-- no country is no code, and another has the number's.
module _ (ws : List ℕ) (n : Notice) (ds : List ℕ) (h : sound ws ≡ true) (g : Good n) (v : Valid n) (f : n.kind ≢ Full) where
  beginning_kept :
      every is_digit ds ≡ true
      → length ds ≤ 15
      → named_by n.lines (key ds) ≡ false
      → (m d : ℕ)
      → (after_book ws n).status (key (take m ds)) d ≡ (in_book ws).status (key (take m ds)) d
  beginning_kept e l u m d = go (country_of_key k) refl
    where
      k : ℕ
      k = key (take m ds)

      go : (x : Option ℕ) → country_of_key k ≡ x → (after_book ws n).status k d ≡ (in_book ws).status k d
      go None p =
          (standing_after ws n h g).closed k d (without_country k p) ∙ sym ((standing_book ws h).closed k d (without_country k p))
      go (Some c) p =
          ap (λ (x : Change). changed x d ((in_book ws).status k d))
          (not_changed k c p (period_of ws) (in_book ws) n v f
          (named_same n.lines k (key ds) (p ∙ sym (beginning_country m ds e l p)) ∙ u))

-- the lookups in the new book of numbers outside
pub outside_new :
    (ws : List ℕ) (n : Notice) (len : ℕ) (number : List ℕ) (day : Day)
    → sound ws ≡ true
    → Good n
    → Valid n
    → n.kind ≢ Full
    → sound (new_book ws len n) ≡ true
    → named_by n.lines (key (map digit_of number)) ≡ false
    → lookup (new_book ws len n) number day ≡ lookup ws number day
unfolding lookup
outside_new ws n len number day h g v f s u = rw (new, old) (by_number (is_dialled number) refl)
  where
    by_day : List ℕ → Result Answer Refusal
    by_day book = cond (is_day day) (Ok (matched (λ k. offer_in (entries_of book) k day.0) (map digit_of number))) (Err TimeOutOfRange)

    old : check_book ws ≡ Ok tt
    old = usable_book ws (sound_book ws h).long h

    new : check_book (new_book ws len n) ≡ Ok tt
    new = usable_book (new_book ws len n) (sound_book (new_book ws len n) s).long s

    kept : is_dialled number ≡ true
        → matched (status_on (new_book ws len n) day.0) (map digit_of number)
        ≡ matched (status_on ws day.0) (map digit_of number)
    kept i =
        let p = dialled_digits number i in
        matched_alike (status_on (new_book ws len n) day.0) (status_on ws day.0) (map digit_of number)
        (λ m.
        ap (λ (x : Known). x.status (key (take m (map digit_of number))) day.0) (new_gives ws n len h g)
        ∙ beginning_kept ws n (map digit_of number) h g v f p.1 p.0 u m day.0)

    by_number : (t : Bool) → is_dialled number ≡ t
        → cond t (by_day (new_book ws len n)) (Err NotANumber) ≡ cond t (by_day ws) (Err NotANumber)
    by_number true i = ap (λ (a : Answer). cond (is_day day) (Ok a) (Err TimeOutOfRange)) (kept i)
    by_number false i = refl

pub in_none : (ls : List Line) (k : ℕ) → country_of_key k ≡ None → named_by ls k ≡ false
unfolding named_by
in_none [] k e = refl
in_none (l ∷ ls) k e =
    ap (λ (x : Option ℕ). same_country (country_of_key l.key) x || named_by ls k) e
    ∙ rw (none (country_of_key l.key)) (in_none ls k e)
  where
    none : (x : Option ℕ) → same_country x None ≡ false
    none (Some c) = refl
    none None = refl
