-- What a sound book gives stands, and a new book gives what is known after its notice.
-- Assumes nothing.
use mathlib.Core.Path.{◌≡◌, refl, ap, sym, ◌∙◌, fun_ext}
use mathlib.Core.Bool.{true}
use mathlib.Core.List.{List}
use Prim.Native.Nat.{ℕ}
use Rattle.rate.specs.OfferWord.{in_range, word_of, offer_of}
use Rattle.rate.specs.declared.Offer.{Offer}
use Rattle.rate.specs.declared.Offer.TheVariants.{Closed}
use Rattle.rate.proofs.Words.{reads_back, closed_word}
use Rattle.notice.specs.NoticeRule.{Notice}
use Rattle.book_words.specs.Layout.{entries_of, book_of, period_of}
use Rattle.book.specs.Soundness.{is_offer_word, sound_entries, sound}
use Rattle.book.specs.Status.{status_in, held_offer, offer_in}
use Rattle.book_words.specs.declared.Entry.{Entry}
use Rattle.book.proofs.Headers.{sound_book}
use Rattle.book.proofs.SoundLists.{to_sound}
use Rattle.book.proofs.Statuses.{no_code, stays, offer_word, held_in_range}
use Rattle.book.proofs.Unique.{unique}
use Rattle.history.specs.Effect.{Known}
use Rattle.history.specs.ChangeDays.{change_days}
use Rattle.history.specs.Machine.{words}
use Rattle.history.specs.Applying.{in_book, after_book, new_entries, new_book}
use Rattle.history.proofs.ChangeLaws.{Admissible, status_back, changes_are_sound}
use Rattle.history.proofs.Keeping.{Standing, Good, keeps}
use Rattle.std.proofs.Common.{is_some}

-- Offer words and offers in range are each other's.
offer_back : (o : Offer) → in_range o ≡ true → held_offer (offer_of (word_of o)) ≡ o
offer_back o h = ap held_offer (reads_back o h)

pub is_word : (o : Offer) → in_range o ≡ true → is_offer_word (word_of o) ≡ true
unfolding is_offer_word
is_word o h = ap is_some (reads_back o h)

-- The offer words of what stands are those of change days.
pub admissible : (k : Known) → Standing k → Admissible (words k)
admissible k s =
    record {
      offers = λ x d. is_word (k.status x d) (s.offers x d);
      closed = λ x d e. ap word_of (s.closed x d e) ∙ (closed_word Closed).1 refl;
      last = λ x d h. ap word_of (s.last x d h);
    }

-- What the change days of what stands give is what stands.
pub given_back : (k : Known) → Standing k → (x d : ℕ) → offer_in (change_days (words k)) x d ≡ k.status x d
unfolding offer_in
given_back k s x d =
    ap (λ (w : ℕ). held_offer (offer_of w)) (status_back (words k) (admissible k s) x d) ∙ offer_back (k.status x d) (s.offers x d)

closed_offer : held_offer (offer_of 0) ≡ Closed
unfolding offer_of
closed_offer = refl

-- What a sound book gives stands.
pub standing_book : (ws : List ℕ) → sound ws ≡ true → Standing (in_book ws)
unfolding offer_in
standing_book ws h =
    let b = sound_book ws h in
    let s = to_sound (entries_of ws) b.entries in
    record {
      offers = λ x d. held_in_range (status_in (entries_of ws) x d);
      closed = λ x d e. ap (λ (w : ℕ). held_offer (offer_of w)) (no_code 0 0 0 0 (entries_of ws) x d s e) ∙ closed_offer;
      last = λ x d l. ap (λ (w : ℕ). held_offer (offer_of w)) (stays 0 0 0 0 (entries_of ws) x d s l);
      latest = b.header.latest_most;
    }

-- A sound book's status words are those of what it gives.
pub given_word : (ws : List ℕ) → sound ws ≡ true → (x d : ℕ) → words (in_book ws) x d ≡ status_in (entries_of ws) x d
given_word ws h x d = offer_word (entries_of ws) x d (to_sound (entries_of ws) (sound_book ws h).entries)

-- What is known after a notice is applied to a sound book stands.
pub standing_after : (ws : List ℕ) (n : Notice) → sound ws ≡ true → Good n → Standing (after_book ws n)
standing_after ws n h g = keeps (period_of ws) (sound_book ws h).header.period_most (in_book ws) n g (standing_book ws h)

pub new_entries_sound : (ws : List ℕ) (n : Notice) → sound ws ≡ true → Good n → sound_entries (new_entries ws n) ≡ true
unfolding new_entries
new_entries_sound ws n h g = changes_are_sound (words (after_book ws n)) (admissible (after_book ws n) (standing_after ws n h g))

-- A new book gives what is known after its notice.
pub gives_after :
    (ws : List ℕ) (n : Notice) (len : ℕ)
    → sound ws ≡ true
    → Good n
    → entries_of (new_book ws len n) ≡ new_entries ws n
    → in_book (new_book ws len n) ≡ after_book ws n
unfolding new_entries book_of
gives_after ws n len h g e =
    λ i. record { status = status_same i; latest = (after_book ws n).latest }
  where
    status_same : offer_in (entries_of (new_book ws len n)) ≡ (after_book ws n).status
    status_same =
        fun_ext (λ x. fun_ext (λ d.
        ap (λ (es : List Entry). offer_in es x d) e ∙ given_back (after_book ws n) (standing_after ws n h g) x d))

-- The entries of a sound book are the change days of what it gives.
pub entries_are : (ws : List ℕ) → sound ws ≡ true → entries_of ws ≡ change_days (words (in_book ws))
entries_are ws h =
    let b = sound_book ws h in
    let a = admissible (in_book ws) (standing_book ws h) in
    let s = to_sound (entries_of ws) b.entries in
    unique (entries_of ws) (change_days (words (in_book ws))) s
    (to_sound (change_days (words (in_book ws))) (changes_are_sound (words (in_book ws)) a))
    (λ x d. sym (given_word ws h x d) ∙ sym (status_back (words (in_book ws)) a x d))
