-- Corollaries of demand 3: a refused notice changes no offer, a notice that is not full changes none outside the countries that
-- it names, the space of the new book refuses exactly where it is short, and the entries left are the machine's change days.
-- Assumes nothing.
use mathlib.Core.Path.{◌≡◌, refl, ap, ap₂, ◌∙◌}
use mathlib.Core.Bool.{true, false}
use mathlib.Core.List.{List, [], ◌∷◌, map}
use mathlib.Core.Logic.{◌≢◌, ◌↔◌}
use Prim.Native.Nat.{ℕ, ◌≤◌, ◌<◌}
use lib.ListN.{length}
use Rattle.dial_code.specs.Digits.{digit_of, is_dialled}
use Rattle.dial_code.specs.Key.{key}
use Rattle.country_code.specs.CountryCode.{country}
use Rattle.country_code.proofs.CountryLaws.{country_of_key_law}
use Rattle.dial_code.proofs.DigitLaws.{dialled_digits}
use Rattle.calendar.specs.declared.Day.{Day}
use Rattle.notice.specs.NoticeRule.{Notice, read_notice}
use Rattle.notice_header.specs.declared.Kind.TheVariants.{Full}
use Rattle.notice_line.specs.declared.Line.{Line}
use Rattle.notice.proofs.NoticeLaws.{notice_valid}
use Rattle.book_words.specs.Layout.{header_words, period_of, held, entries_of}
use Rattle.book.specs.Answers.{fresh_answer, fresh_book}
use Rattle.lookup.specs.Lookup.{lookup}
use Rattle.book_words.proofs.BookWords.{entries_back}
use Rattle.history.specs.Effect.{Known, named_by, after_notice}
use Rattle.history.specs.ChangeDays.{change_days}
use Rattle.history.specs.Machine.{known, last_received, words}
use Rattle.history.specs.Applying.{after_book, new_entries, apply_notice, written_book, applied, apply_answer}
use Rattle.history.specs.Claim.{Apply, accepted_by, current_by, current, book_left}
use Rattle.history.proofs.Keeping.{good}
use Rattle.history.proofs.Theorem.{Linked, accepted_facts, accepted_words, same_answer, same_entries}
use Rattle.history.proofs.Theorem.{left_linked, fresh_linked}
use Rattle.history.proofs.Outside.{usable_old, new_sound, outside_new, in_none}
use Rattle.history.proofs.Space.{machine_full, machine_taken}
use Rattle.refusal.specs.declared.Refusal.{Refusal}
use Rattle.refusal.specs.declared.Refusal.TheVariants.{BookFull}
use Rattle.std.proofs.Common.{Result, Ok, Err, None}

-- 1. Refused notices.

-- A refused notice leaves every word of the new book as it was.
pub refused_keeps : (ws bytes new : List ℕ) (r : Refusal) → apply_notice ws bytes (length new) ≡ Err r → applied ws bytes new ≡ new
unfolding applied
refused_keeps ws bytes new r e = ap (written_book ws new) e

-- After it the old book stays the current one.
pub refused_stays : (ws : List ℕ) (a : Apply) (r : Refusal) → apply_notice ws a.bytes (length a.new) ≡ Err r → current ws a ≡ ws
unfolding current
refused_stays ws a r e = ap (current_by ws (applied ws a.bytes a.new)) e

-- So it changes no offer.
pub refused_offers :
    (ws : List ℕ) (a : Apply) (r : Refusal)
    → apply_notice ws a.bytes (length a.new) ≡ Err r
    → (number : List ℕ) (day : Day)
    → lookup (current ws a) number day ≡ lookup ws number day
refused_offers ws a r e number day = ap (λ (b : List ℕ). lookup b number day) (refused_stays ws a r e)

-- 2. Numbers outside the countries that a notice names.

-- A partial notice, an update or a replacement changes no offer of a number outside the countries that it names.
pub outside_keeps :
    (ws : List ℕ) (a : Apply) (n : Notice)
    → read_notice a.bytes ≡ Ok n
    → n.kind ≢ Full
    → (number : List ℕ)
    → named_by n.lines (key (map digit_of number)) ≡ false
    → (day : Day)
    → lookup (current ws a) number day ≡ lookup ws number day
unfolding current
outside_keeps ws a n q f number u day = go (apply_notice ws a.bytes (length a.new)) refl
  where
    go : (r : Result Notice Refusal) → apply_notice ws a.bytes (length a.new) ≡ r
        → lookup (current_by ws (applied ws a.bytes a.new) r) number day ≡ lookup ws number day
    go (Err r) p = refl
    go (Ok m) p =
        let h = usable_old ws a.bytes (length a.new) m p in
        let x = accepted_facts ws a.bytes (length a.new) m h p in
        let s : m ≡ n = cc (x.reads, q) in
        let g = good a.bytes n q in
        ap (λ (b : List ℕ). lookup b number day) (rw s at (accepted_words ws a.bytes a.new m p))
        ∙ outside_new ws n (length a.new) number day h g (notice_valid a.bytes n q) f
        (new_sound ws n (length a.new) h g x.long (rw s at x.fits))
        u

-- A number too short for a country code lies in none.
pub too_short :
    (ls : List Line) (number : List ℕ)
    → is_dialled number ≡ true
    → country (map digit_of number) ≡ None
    → named_by ls (key (map digit_of number)) ≡ false
too_short ls number i e =
    let p = dialled_digits number i in
    in_none ls (key (map digit_of number)) (country_of_key_law (map digit_of number) p.1 p.0 ∙ e)

-- 3. Space: 30 exactly where no earlier cause holds and the change days are more than the new book's entries held.

module _ (ws : List ℕ) (period : ℕ) (accepted : List Notice) (l : Linked ws period accepted) (bytes : List ℕ) (len : ℕ) where
  -- 30 exactly where nothing earlier refuses and the machine's change days are more than the new book's entries held.
  pub full_exactly :
      (apply_notice ws bytes len ≡ Err BookFull)
      ↔ ((n : Notice)
      × (header_words ≤ len)
      × (read_notice bytes ≡ Ok n)
      × (last_received accepted ≤ n.received)
      × (held len < length (change_days (words (known period (n ∷ accepted))))))
  full_exactly = rw (same_answer ws period accepted l bytes len) (machine_full period accepted bytes len)

  -- A notice is accepted exactly where nothing earlier refuses it and they are no more.
  pub taken_exactly :
      (n : Notice)
      → (apply_notice ws bytes len ≡ Ok n)
      ↔ ((header_words ≤ len)
      × (read_notice bytes ≡ Ok n)
      × (last_received accepted ≤ n.received)
      × (length (change_days (words (known period (n ∷ accepted)))) ≤ held len))
  taken_exactly n = rw (same_answer ws period accepted l bytes len) (machine_taken period accepted bytes len n)

-- The same of the book left by any list of applies from a fresh book.
module _ (start period : ℕ) (f : fresh_answer start period ≡ Ok tt) (all : List Apply) (bytes : List ℕ) (len : ℕ) where
  pub fresh_full_exactly :
      (apply_notice (book_left (fresh_book start period) all) bytes len ≡ Err BookFull)
      ↔ ((n : Notice)
      × (header_words ≤ len)
      × (read_notice bytes ≡ Ok n)
      × (last_received (accepted_by period [] all) ≤ n.received)
      × (held len < length (change_days (words (known period (n ∷ accepted_by period [] all))))))
  fresh_full_exactly =
      full_exactly _ period _ (left_linked (fresh_book start period) period [] all (fresh_linked start period f)) bytes len

  pub fresh_taken_exactly :
      (n : Notice)
      → (apply_notice (book_left (fresh_book start period) all) bytes len ≡ Ok n)
      ↔ ((header_words ≤ len)
      × (read_notice bytes ≡ Ok n)
      × (last_received (accepted_by period [] all) ≤ n.received)
      × (length (change_days (words (known period (n ∷ accepted_by period [] all)))) ≤ held len))
  fresh_taken_exactly n =
      taken_exactly _ period _ (left_linked (fresh_book start period) period [] all (fresh_linked start period f)) bytes len n

-- 4. Entries.

module _ (ws : List ℕ) (period : ℕ) (accepted : List Notice) (l : Linked ws period accepted) (a : Apply) (n : Notice)
    (e : apply_notice ws a.bytes (length a.new) ≡ Ok n) where
  -- After an accepted apply the entries are the machine's change days with the notice appended.
  pub accepted_entries : entries_of (current ws a) ≡ change_days (words (known period (n ∷ accepted)))
  unfolding current
  accepted_entries =
      rw (e, accepted_words ws a.bytes a.new n e)
      (entries_back (length a.new) (period_of ws) n.received (after_book ws n).latest (new_entries ws n)
      ∙ same_entries ws period accepted l n)

  -- The apply answers that number, and the machine's last received day and latest effective day.
  pub accepted_answer_law :
      apply_answer ws a.bytes (length a.new)
      ≡ Ok (record {
        entries = length (change_days (words (known period (n ∷ accepted))));
        received = n.received;
        latest = (known period (n ∷ accepted)).latest;
      })
  unfolding apply_answer known
  accepted_answer_law =
      rw e
      (λ i. Ok (record {
        entries = length (same_entries ws period accepted l n i);
        received = n.received;
        latest = ap₂ (λ (p : ℕ) (k : Known). (after_notice p k n).latest) l.period_is l.known_is i;
      }))

-- The same of the book left by any list of applies from a fresh book.
module _ (start period : ℕ) (f : fresh_answer start period ≡ Ok tt) (all : List Apply) (a : Apply) (n : Notice)
    (e : apply_notice (book_left (fresh_book start period) all) a.bytes (length a.new) ≡ Ok n) where
  pub fresh_accepted_entries :
      entries_of (current (book_left (fresh_book start period) all) a)
      ≡ change_days (words (known period (n ∷ accepted_by period [] all)))
  fresh_accepted_entries =
      accepted_entries _ period _ (left_linked (fresh_book start period) period [] all (fresh_linked start period f)) a n e

  pub fresh_accepted_answer :
      apply_answer (book_left (fresh_book start period) all) a.bytes (length a.new)
      ≡ Ok (record {
        entries = length (change_days (words (known period (n ∷ accepted_by period [] all))));
        received = n.received;
        latest = (known period (n ∷ accepted_by period [] all)).latest;
      })
  fresh_accepted_answer =
      accepted_answer_law _ period _ (left_linked (fresh_book start period) period [] all (fresh_linked start period f)) a n e
