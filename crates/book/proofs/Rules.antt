-- The rules of soundness, opened one at a time, and some of their cases. Assumes nothing.
use mathlib.Core.Path.{◌≡◌, refl, sym, ◌∙◌}
use mathlib.Core.Bool.{true, false, cond, ◌&&◌, not}
use mathlib.Core.List.{List, [], ◌∷◌}
use Prim.Native.Nat.{ℕ, ◌+◌, ◌*◌, ◌≤◌, ◌<◌}
use native.Mathlib.Omega.{arith}
use native.Mathlib.Numerals.{add-one}
use borrow.Author.Tests.{le-leb, lt-ltb, eq-eqb, ne_eqb}
use lib.Dec.{eqb, leb, ltb}
use lib.ListN.{length, get_or, drop, drop_of_length-le}
use lib.Seq.{drop-cons}
use Rattle.allowed_code.specs.Code.{is_code_key, is_code_key_after}
use Rattle.allowed_code.proofs.CodeLaws.{after_code}
use Rattle.dial_code.proofs.Tests.{and_left_true, and_right_true}
use Rattle.calendar.specs.Time.{last_received_day, last_day}
use Rattle.book_words.specs.Layout.{header_words, entry_words, most_period}
use Rattle.book_words.specs.Layout.{count_of, period_of, received_of, latest_of, entries_of, held}
use Rattle.book.specs.Soundness.{is_offer_word, in_range, begins, follows, sound_after, sound_entries}
use Rattle.book.specs.Soundness.{all_zero, sound_header, sound}
use Rattle.book_words.specs.declared.Entry.{Entry}

-- An entry by itself, as the first of a code, and after another.
pub range_test : (e : Entry) → in_range e ≡ (leb e.day last_day && is_offer_word e.offer)
unfolding in_range
range_test e = refl

pub begins_test : (e : Entry) → begins e ≡ (is_code_key e.key && (not (eqb e.offer 0) && in_range e))
unfolding begins
begins_test e = refl

pub follows_test :
    (e f : Entry)
    → follows e f
    ≡ cond (eqb e.key f.key)
    (ltb e.day f.day && (not (eqb e.offer f.offer) && in_range f))
    (ltb e.key f.key && begins f)
unfolding follows
follows_test e f = refl

-- Entries one after the other.
pub none_after : (e : Entry) → sound_after e [] ≡ true
unfolding sound_after
none_after e = refl

pub one_after : (e f : Entry) (fs : List Entry) → sound_after e (f ∷ fs) ≡ (follows e f && sound_after f fs)
unfolding sound_after
one_after e f fs = refl

pub no_entries : sound_entries [] ≡ true
unfolding sound_entries
no_entries = refl

pub some_entries : (e : Entry) (es : List Entry) → sound_entries (e ∷ es) ≡ (begins e && sound_after e es)
unfolding sound_entries
some_entries e es = refl

-- The header, and the whole book.
pub header_test :
    (ws : List ℕ)
    → sound_header ws
    ≡ (leb (count_of ws) (held (length ws))
    && (leb (period_of ws) most_period && (leb (received_of ws) last_received_day && leb (latest_of ws) last_day)))
unfolding sound_header
header_test ws = refl

pub sound_test :
    (ws : List ℕ)
    → sound ws
    ≡ (leb header_words (length ws)
    && (sound_header ws && (sound_entries (entries_of ws) && all_zero (drop (header_words + count_of ws * entry_words) ws))))
unfolding sound
sound_test ws = refl

-- An entry in range by its day; the first of a code; one after another, of the same key and of a larger one.
module _ (e : Entry) where
  pub by_word : e.day ≤ last_day → in_range e ≡ is_offer_word e.offer
  by_word h = range_test e ∙ and_left_true _ (le-leb _ _ h)

  pub by_key : (not (eqb e.offer 0) && in_range e) ≡ true → begins e ≡ is_code_key e.key
  by_key h = begins_test e ∙ and_right_true (is_code_key e.key) h

module _ (e f : Entry) where
  pub changed : e.key ≡ f.key → e.day < f.day → (e.offer ≡ f.offer → ⊥) → follows e f ≡ in_range f
  changed k h n =
      follows_test e f
      ∙ rw (eq-eqb e.key f.key k, lt-ltb e.day f.day h, ne_eqb e.offer f.offer n)

  pub larger_key : e.key < f.key → follows e f ≡ begins f
  larger_key h =
      follows_test e f
      ∙ rw (ne_eqb e.key f.key (λ (k : e.key ≡ f.key). omega arith), lt-ltb e.key f.key h)

  pub next_code :
      is_code_key e.key ≡ true
      → e.key < f.key
      → (not (eqb f.offer 0) && in_range f) ≡ true
      → follows e f ≡ is_code_key_after e.key f.key
  next_code c k o = larger_key k ∙ by_key f o ∙ sym (after_code e.key f.key c)

-- Words that are 0 from a place on: a word that is not, one that is, and no word left.
module _ (ws : List ℕ) (i : ℕ) where
  pub not_zero : i < length ws → (get_or ws i 0 ≡ 0 → ⊥) → all_zero (drop i ws) ≡ false
  unfolding all_zero
  not_zero h n = rw (drop-cons ws i 0 h, ne_eqb (get_or ws i 0) 0 n)

  pub one_zero : i < length ws → get_or ws i 0 ≡ 0 → all_zero (drop i ws) ≡ all_zero (drop (i + 1) ws)
  unfolding all_zero
  one_zero h e = rw (drop-cons ws i 0 h, eq-eqb (get_or ws i 0) 0 e, add-one)

  pub all_seen : length ws ≤ i → all_zero (drop i ws) ≡ true
  unfolding all_zero
  all_seen h = rw (drop_of_length-le ws h)
