-- Demand 3: the applies from a fresh book answer what the plain machine answers, and the book left gives its offers.
-- Assumes nothing.
use mathlib.Core.Path.{◌≡◌, refl, ap, ap₂, sym, ◌∙◌, fun_ext}
use mathlib.Core.Bool.{Bool, true, false, cond}
use mathlib.Core.List.{List, [], ◌∷◌, map}
use Prim.Native.Nat.{ℕ, ◌≤◌}
use borrow.Author.Tests.{ltb-false, leb-true}
use lib.Dec.{leb, ltb}
use lib.ListN.{length}
use Rattle.dial_code.specs.Digits.{digit_of, is_dialled}
use Rattle.rate.specs.OfferWord.{offer_of}
use Rattle.rate.specs.declared.Offer.TheVariants.{Closed}
use Rattle.calendar.specs.Time.{is_day}
use Rattle.calendar.specs.declared.Day.{Day}
use Rattle.notice.specs.NoticeRule.{Notice, read_notice}
use Rattle.book_words.specs.Layout.{header_words, held, entries_of, book_of, period_of, received_of}
use Rattle.book.specs.Soundness.{sound}
use Rattle.book.specs.Status.{status_in, offer_in}
use Rattle.longest_match.specs.Match.{matched}
use Rattle.book.specs.Answers.{fresh_answer, fresh_book, check_book}
use Rattle.lookup.specs.Lookup.{lookup}
use Rattle.book_words.specs.declared.Entry.{Entry}
use Rattle.book.proofs.Headers.{sound_book}
use Rattle.book.proofs.Usable.{usable_book}
use Rattle.book_words.proofs.BookWords.{entries_back}
use Rattle.book.proofs.SoundBooks.{sound_back}
use Rattle.book.proofs.FreshBooks.{fresh_sound, fresh_entries}
use Rattle.history.specs.Effect.{Known, after_notice}
use Rattle.history.specs.ChangeDays.{change_days}
use Rattle.history.specs.Machine.{known, last_received, words, judged, answers, answer_of}
use Rattle.history.specs.Applying.{in_book, after_book, new_entries, judged_by, apply_notice, new_book, written_book, applied}
use Rattle.history.specs.Claim.{Apply, with_notice, accepts, machine_answers, accepted_by, current_by, current, book_answers, book_left, Alike}
use Rattle.history.proofs.Keeping.{Good, good}
use Rattle.history.proofs.Books.{standing_after, new_entries_sound, gives_after, entries_are}
use Rattle.refusal.specs.Steps.{◌>>=◌}
use Rattle.refusal.specs.declared.Refusal.{Refusal}
use Rattle.refusal.specs.declared.Refusal.TheVariants.{BookFull, BookTooShort, ReceivedEarlier}
use Rattle.std.proofs.Common.{Result, Ok, Err}

-- A book that stands where a history stands: sound, with its notice period, its last received day, and what it gives.
pub record Linked (ws : List ℕ) (period : ℕ) (accepted : List Notice) : Type 0 where
  pub sound : sound ws ≡ true
  pub period_is : period_of ws ≡ period
  pub received_is : received_of ws ≡ last_received accepted
  pub known_is : in_book ws ≡ known period accepted

-- a sound book is not refused
usable : (ws : List ℕ) → sound ws ≡ true → check_book ws ≡ Ok tt
usable ws h = usable_book ws (sound_book ws h).long h

module _ (ws : List ℕ) (period : ℕ) (accepted : List Notice) (l : Linked ws period accepted) where
  -- the entries that an apply would write are the machine's change days with the notice appended
  pub same_entries : (n : Notice) → new_entries ws n ≡ change_days (words (known period (n ∷ accepted)))
  unfolding new_entries known
  same_entries n =
      ap₂ (λ (p : ℕ) (k : Known). change_days (words (after_notice p k n))) l.period_is l.known_is

  same_judgement : (n : Notice) (len : ℕ) → judged_by ws n len ≡ judged period accepted n len
  unfolding judged_by judged
  same_judgement n len =
      ap₂ (λ (r : ℕ) (es : List Entry). cond (ltb n.received r) (Err ReceivedEarlier) (cond (leb (length es) (held len)) (Ok n) (Err BookFull)))
      l.received_is (same_entries n)

  -- An apply answers what the machine answers.
  pub same_answer : (bytes : List ℕ) (len : ℕ) → apply_notice ws bytes len ≡ answers period accepted bytes len
  unfolding apply_notice answers
  same_answer bytes len =
      rw (usable ws l.sound)
      (ap (λ (judge : Notice → Result Notice Refusal). cond (ltb len header_words) (Err BookTooShort) (read_notice bytes >>= judge))
      (fun_ext (λ n. same_judgement n len)))

-- What an accepted apply tells.
pub record Accepted (ws bytes : List ℕ) (len : ℕ) (n : Notice) : Type 0 where
  pub long : header_words ≤ len
  pub reads : read_notice bytes ≡ Ok n
  pub in_order : received_of ws ≤ n.received
  pub fits : length (new_entries ws n) ≤ held len

judged_by_law :
    (ws : List ℕ) (n : Notice) (len : ℕ)
    → judged_by ws n len
    ≡ cond (ltb n.received (received_of ws)) (Err ReceivedEarlier) (cond (leb (length (new_entries ws n)) (held len)) (Ok n) (Err BookFull))
unfolding judged_by
judged_by_law ws n len = refl

pub accepted_facts : (ws bytes : List ℕ) (len : ℕ) (n : Notice) → sound ws ≡ true → apply_notice ws bytes len ≡ Ok n → Accepted ws bytes len n
unfolding apply_notice
accepted_facts ws bytes len n h e = by_length (ltb len header_words) refl (rw (usable ws h) at e)
  where
    by_fit :
        (m : Notice)
        → header_words ≤ len
        → read_notice bytes ≡ Ok m
        → received_of ws ≤ m.received
        → (t : Bool)
        → leb (length (new_entries ws m)) (held len) ≡ t
        → cond t (Ok m) (Err BookFull) ≡ Ok n
        → Accepted ws bytes len n
    by_fit m l q r true p z =
        let s : m ≡ n = cc in
        record { long = l; reads = q ∙ z; in_order = rw s at r; fits = rw s at (leb-true _ _ p) }
    by_fit m l q r false p z = absurd (cc)

    by_order :
        (m : Notice)
        → header_words ≤ len
        → read_notice bytes ≡ Ok m
        → (t : Bool)
        → ltb m.received (received_of ws) ≡ t
        → cond t (Err ReceivedEarlier) (cond (leb (length (new_entries ws m)) (held len)) (Ok m) (Err BookFull)) ≡ Ok n
        → Accepted ws bytes len n
    by_order m l q true p z = absurd (cc)
    by_order m l q false p z = by_fit m l q (ltb-false _ _ p) (leb (length (new_entries ws m)) (held len)) refl z

    by_reading :
        header_words ≤ len
        → (r : Result Notice Refusal)
        → read_notice bytes ≡ r
        → (r >>= λ m. judged_by ws m len) ≡ Ok n
        → Accepted ws bytes len n
    by_reading l (Ok m) q z = by_order m l q (ltb m.received (received_of ws)) refl (sym (judged_by_law ws m len) ∙ z)
    by_reading l (Err r) q z = absurd (cc)

    by_length :
        (t : Bool)
        → ltb len header_words ≡ t
        → cond t (Err BookTooShort) (read_notice bytes >>= λ m. judged_by ws m len) ≡ Ok n
        → Accepted ws bytes len n
    by_length true p z = absurd (cc)
    by_length false p z = by_reading (ltb-false len header_words p) (read_notice bytes) refl z

-- What an accepted apply leaves is the new book.
pub accepted_words :
    (ws bytes new : List ℕ) (n : Notice)
    → apply_notice ws bytes (length new) ≡ Ok n
    → applied ws bytes new ≡ new_book ws (length new) n
unfolding applied
accepted_words ws bytes new n e = ap (written_book ws new) e

-- a lookup that nothing refuses
looked :
    (ws number : List ℕ) (day : Day)
    → sound ws ≡ true
    → is_dialled number ≡ true
    → is_day day ≡ true
    → lookup ws number day ≡ Ok (matched (λ k. offer_in (entries_of ws) k day.0) (map digit_of number))
unfolding lookup
looked ws number day h i d = rw (usable ws h, i, d)

-- The book after an accepted apply stands where the history with the notice appended stands.
new_linked :
    (ws : List ℕ) (period : ℕ) (accepted : List Notice) (n : Notice) (len : ℕ)
    → Linked ws period accepted
    → Good n
    → header_words ≤ len
    → length (new_entries ws n) ≤ held len
    → Linked (new_book ws len n) period (n ∷ accepted)
unfolding known book_of
new_linked ws period accepted n len l g long fits =
    let b = sound_book ws l.sound in
    record {
      sound = sound_back len (period_of ws) n.received (after_book ws n).latest (new_entries ws n) long fits b.header.period_most g.received (standing_after ws n l.sound g).latest (new_entries_sound ws n l.sound g);
      period_is = l.period_is;
      received_is = refl;
      known_is =
          gives_after ws n len l.sound g (entries_back len (period_of ws) n.received (after_book ws n).latest (new_entries ws n))
          ∙ ap₂ (λ (p : ℕ) (k : Known). after_notice p k n) l.period_is l.known_is;
    }

-- The current book after an apply stands where the machine stands.
step :
    (ws : List ℕ) (period : ℕ) (accepted : List Notice) (a : Apply)
    → Linked ws period accepted
    → Linked (current ws a) period (accepts period accepted a)
unfolding current accepts
step ws period accepted a l = go (apply_notice ws a.bytes (length a.new)) refl
  where
    same : apply_notice ws a.bytes (length a.new) ≡ answers period accepted a.bytes (length a.new)
    same = same_answer ws period accepted l a.bytes (length a.new)

    go :
        (r : Result Notice Refusal)
        → apply_notice ws a.bytes (length a.new) ≡ r
        → Linked (current_by ws (applied ws a.bytes a.new) (apply_notice ws a.bytes (length a.new))) period (with_notice accepted (answers period accepted a.bytes (length a.new)))
    go (Ok n) e =
        let f = accepted_facts ws a.bytes (length a.new) n l.sound e in
        rw (← same, e, accepted_words ws a.bytes a.new n e)
        (new_linked ws period accepted n (length a.new) l (good a.bytes n f.reads) f.long f.fits)
    go (Err r) e = rw (← same, e) l

same_answers :
    (ws : List ℕ) (period : ℕ) (accepted : List Notice) (all : List Apply)
    → Linked ws period accepted
    → book_answers ws all ≡ machine_answers period accepted all
unfolding book_answers machine_answers
same_answers ws period accepted [] l = refl
same_answers ws period accepted (a ∷ later) l =
    ap₂ ◌∷◌ (same_answer ws period accepted l a.bytes (length a.new))
    (same_answers (current ws a) period (accepts period accepted a) later (step ws period accepted a l))

pub left_linked :
    (ws : List ℕ) (period : ℕ) (accepted : List Notice) (all : List Apply)
    → Linked ws period accepted
    → Linked (book_left ws all) period (accepted_by period accepted all)
unfolding book_left accepted_by
left_linked ws period accepted [] l = l
left_linked ws period accepted (a ∷ later) l =
    left_linked (current ws a) period (accepts period accepted a) later (step ws period accepted a l)

same_lookup :
    (ws : List ℕ) (period : ℕ) (accepted : List Notice)
    → Linked ws period accepted
    → (number : List ℕ) (day : Day)
    → is_dialled number ≡ true
    → is_day day ≡ true
    → lookup ws number day ≡ Ok (answer_of period accepted (map digit_of number) day.0)
same_lookup ws period accepted l number day i d =
    looked ws number day l.sound i d
    ∙ ap (λ (k : Known). Ok (matched (λ (x : ℕ). k.status x day.0) (map digit_of number))) l.known_is

-- A book that stands where a history stands goes on as the machine does.
pub alike :
    (ws : List ℕ) (period : ℕ) (accepted : List Notice) (all : List Apply)
    → Linked ws period accepted
    → Alike ws period accepted all
alike ws period accepted all l =
    let f = left_linked ws period accepted all l in
    record {
      refusals = same_answers ws period accepted all l;
      entries = entries_are (book_left ws all) f.sound ∙ ap (λ (k : Known). change_days (words k)) f.known_is;
      lookups = same_lookup (book_left ws all) period (accepted_by period accepted all) f;
    }

nothing_held : (x d : ℕ) → offer_in [] x d ≡ Closed
unfolding offer_in status_in offer_of
nothing_held x d = refl

-- A fresh book stands where the fresh machine does.
pub fresh_linked : (len period : ℕ) → fresh_answer len period ≡ Ok tt → Linked (fresh_book len period) period []
unfolding fresh_book book_of known
fresh_linked len period e =
    record {
      sound = fresh_sound len period e;
      period_is = refl;
      received_is = refl;
      known_is = λ i. record { status = all_closed i; latest = 0 };
    }
  where
    all_closed : offer_in (entries_of (fresh_book len period)) ≡ (λ (x d : ℕ). Closed)
    all_closed =
        fun_ext (λ x. fun_ext (λ d. ap (λ (es : List Entry). offer_in es x d) (fresh_entries len period) ∙ nothing_held x d))

-- Demand 3. From a fresh book of any notice period and length that are not refused, over every list of applies: each answers what
-- the plain machine answers, the entries left are its change days in order, and every lookup in the book left gives its offer
-- and key, worked from the accepted notices alone.
pub claim : (len period : ℕ) → fresh_answer len period ≡ Ok tt → (all : List Apply) → Alike (fresh_book len period) period [] all
claim len period e all = alike (fresh_book len period) period [] all (fresh_linked len period e)
