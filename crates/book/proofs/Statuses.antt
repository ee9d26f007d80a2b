-- The status of a code on a day in a list of entries: which entry gives it, and which entries change nothing. Assumes nothing.
use mathlib.Core.Path.{◌≡◌, refl, ap, sym, ◌∙◌}
use mathlib.Core.Bool.{Bool, true, false, cond, ◌&&◌, false≢true}
use mathlib.Core.List.{List, [], ◌∷◌, ◌++◌}
use Prim.Native.Nat.{ℕ, zero, suc, ◌≤◌, ◌<◌}
use native.Mathlib.Omega.{arith}
use borrow.Author.Tests.{le-leb, lt-leb, eq-eqb, ne_eqb}
use lib.Dec.{eqb, leb}
use lib.ListN.{length}
use Rattle.allowed_code.specs.Code.{is_code_key}
use Rattle.dial_code.proofs.Tests.{and_left_true, and_left_false, and_right_false}
use Rattle.calendar.specs.Time.{last_day}
use Rattle.rate.specs.OfferWord.{in_range, offer_of, word_of}
use Rattle.rate.specs.declared.Offer.{Offer}
use Rattle.rate.proofs.Words.{only_word}
use Rattle.book.specs.Soundness.{is_offer_word}
use Rattle.book.specs.Status.{status_from, status_in, held_offer, offer_in}
use Rattle.book_words.specs.declared.Entry.{Entry}
use Rattle.book_words.proofs.Rows.{entry_in}
use Rattle.book.proofs.SoundLists.{After, same, next, SoundFrom, Sound, each_allowed, keys_rise}
use Rattle.std.proofs.Common.{Option, Some, None, is_some}

-- The status of a code in entries one after the other.
pub status_append : (w : ℕ) (es fs : List Entry) (k d : ℕ) → status_from w (es ++ fs) k d ≡ status_from (status_from w es k d) fs k d
unfolding status_from
status_append w [] fs k d = refl
status_append w (e ∷ es) fs k d = status_append (cond (eqb e.key k && leb e.day d) e.offer w) es fs k d

-- A code and a day, x and d, that stand before a key and a day, k and n.
pub data Before (k n x d : ℕ) : Type 0 where
  smaller : x < k → Before k n x d
  earlier : x ≡ k → d < n → Before k n x d

-- What stands before a day stands before the next.
pub before_on : {k n x d : ℕ} → Before k n x d → Before k (suc n) x d
before_on (smaller l) = smaller l
before_on (earlier e l) = earlier e (omega arith)

-- What stands before a state stands before an entry after it.
pub before_after : {k n o x d : ℕ} {e : Entry} → After k n o e → Before k n x d → Before e.key e.day x d
before_after (same q m n) (smaller l) = smaller (omega arith)
before_after (same q m n) (earlier p l) = earlier (p ∙ sym q) (omega arith)
before_after (next q n) (smaller l) = smaller (omega arith)
before_after (next q n) (earlier p l) = smaller (omega arith)

-- One entry: it gives the status, or it is of another key, or of a later day, or stands later.
module _ (w : ℕ) (e : Entry) (es : List Entry) (x d : ℕ) where
  by_test :
      {t : Bool}
      → (eqb e.key x && leb e.day d) ≡ t
      → status_from w (e ∷ es) x d ≡ status_from (cond t e.offer w) es x d
  unfolding status_from
  by_test q = ap (λ (t : Bool). status_from (cond t e.offer w) es x d) q

  pub gives : e.key ≡ x → e.day ≤ d → status_from w (e ∷ es) x d ≡ status_from e.offer es x d
  gives k h = by_test (and_left_true _ (eq-eqb e.key x k) ∙ le-leb e.day d h)

  pub other_key : (e.key ≡ x → ⊥) → status_from w (e ∷ es) x d ≡ status_from w es x d
  other_key n = by_test (and_left_false (leb e.day d) (ne_eqb e.key x n))

  pub later_day : d < e.day → status_from w (e ∷ es) x d ≡ status_from w es x d
  later_day h = by_test (and_right_false (eqb e.key x) (lt-leb e.day d h))

  pub stands_later : Before e.key e.day x d → status_from w (e ∷ es) x d ≡ status_from w es x d
  stands_later (smaller l) = other_key (λ q. omega arith)
  stands_later (earlier q l) = later_day l

-- A list that is sound after a state changes nothing before it.
pub untouched : (k n o w : ℕ) (es : List Entry) (x d : ℕ) → SoundFrom k n o es → Before k n x d → status_from w es x d ≡ w
unfolding status_from SoundFrom
untouched k n o w [] x d s b = refl
untouched k n o w (e ∷ es) x d s b =
    let f = before_after s.0 b in
    stands_later w e es x d f ∙ untouched e.key (suc e.day) e.offer w es x d s.2 (before_on f)

-- Nor does one whose first entry stands later.
pub begins_later :
    (k n o w : ℕ) (es : List Entry) (x d : ℕ)
    → SoundFrom k n o es
    → (0 < length es → Before (entry_in es 0).key (entry_in es 0).day x d)
    → status_from w es x d ≡ w
unfolding status_from SoundFrom
begins_later k n o w [] x d s b = refl
begins_later k n o w (e ∷ es) x d s b =
    let f = b (omega arith) in
    stands_later w e es x d f ∙ untouched e.key (suc e.day) e.offer w es x d s.2 (before_on f)

-- The status of a code on a day is that of its last entry not after the day: entry i is the code's and not after the day, and
-- the entry behind it stands later.
pub last_entry_law :
    (k n o w : ℕ) (es : List Entry) (i x d : ℕ)
    → SoundFrom k n o es
    → i < length es
    → (entry_in es i).key ≡ x
    → (entry_in es i).day ≤ d
    → (suc i < length es → Before (entry_in es (suc i)).key (entry_in es (suc i)).day x d)
    → status_from w es x d ≡ (entry_in es i).offer
unfolding status_from SoundFrom
last_entry_law k n o w [] i x d s h q l b = absurd (omega arith)
last_entry_law k n o w (e ∷ es) zero x d s h q l b =
    gives w e es x d q l ∙ begins_later e.key (suc e.day) e.offer e.offer es x d s.2 (λ g. b (omega arith))
last_entry_law k n o w (e ∷ es) (suc i) x d s h q l b =
    last_entry_law e.key (suc e.day) e.offer (cond (eqb e.key x && leb e.day d) e.offer w) es i x d
    s.2
    (omega arith)
    q
    l
    (λ g. b (omega arith))

-- There is none where the entry before the i-th has a smaller key, and the i-th stands later.
pub no_last_entry :
    (k n o w : ℕ) (es : List Entry) (i x d : ℕ)
    → SoundFrom k n o es
    → i ≤ length es
    → ((j : ℕ) → suc j ≡ i → (entry_in es j).key < x)
    → (i < length es → Before (entry_in es i).key (entry_in es i).day x d)
    → status_from w es x d ≡ w
unfolding status_from SoundFrom
no_last_entry k n o w es zero x d s h g b = begins_later k n o w es x d s b
no_last_entry k n o w [] (suc i) x d s h g b = absurd (omega arith)
no_last_entry k n o w (e ∷ es) (suc i) x d s h g b =
    other_key w e es x d (λ q. omega (arith, g i refl, least i (omega arith)))
    ∙ no_last_entry e.key (suc e.day) e.offer w es i x d
    s.2
    (omega arith)
    (λ j p. g (suc j) (ap suc p))
    (λ l. b (omega arith))
  where
    least : (i : ℕ) → i < suc (length es) → e.key ≤ (entry_in (e ∷ es) i).key
    least zero l = omega arith
    least (suc i) l = keys_rise e.key (suc e.day) e.offer es i s.2 (omega arith)

-- A code with no entry of its own keeps its status: closed, in a whole list.
pub no_entry_law :
    (w : ℕ) (es : List Entry) (x d : ℕ)
    → ((i : ℕ) → i < length es → (entry_in es i).key ≡ x → ⊥)
    → status_from w es x d ≡ w
unfolding status_from
no_entry_law w [] x d g = refl
no_entry_law w (e ∷ es) x d g = other_key w e es x d (g 0 (omega arith)) ∙ no_entry_law w es x d (λ i h. g (suc i) (omega arith))

-- A word that is no code's key has no entry.
pub no_code : (k n o w : ℕ) (es : List Entry) (x d : ℕ) → SoundFrom k n o es → is_code_key x ≡ false → status_from w es x d ≡ w
no_code k n o w es x d s h =
    no_entry_law w es x d (λ i l q. false≢true (sym h ∙ ap is_code_key (sym q) ∙ (each_allowed k n o es i s l).code))

-- The status in a whole list starts closed.
pub starts_closed : (es : List Entry) (x d : ℕ) → status_in es x d ≡ status_from 0 es x d
unfolding status_in
starts_closed es x d = refl

-- Every status of a sound list is an offer word.
pub status_word :
    (k n o w : ℕ) (es : List Entry) (x d : ℕ)
    → SoundFrom k n o es
    → is_offer_word w ≡ true
    → is_offer_word (status_from w es x d) ≡ true
unfolding status_from SoundFrom
status_word k n o w [] x d s h = h
status_word k n o w (e ∷ es) x d s h =
    status_word e.key (suc e.day) e.offer (cond (eqb e.key x && leb e.day d) e.offer w) es x d
    s.2
    (go (eqb e.key x && leb e.day d))
  where
    go : (t : Bool) → is_offer_word (cond t e.offer w) ≡ true
    go true = s.1.offer_word
    go false = h

-- From the last day on a status stays.
pub stays :
    (k n o w : ℕ) (es : List Entry) (x d : ℕ)
    → SoundFrom k n o es
    → last_day ≤ d
    → status_from w es x d ≡ status_from w es x last_day
unfolding status_from SoundFrom
stays k n o w [] x d s h = refl
stays k n o w (e ∷ es) x d s h =
    rw (le-leb e.day d (omega (arith, s.1.day_most)), le-leb e.day last_day s.1.day_most)
    (stays e.key (suc e.day) e.offer (cond (eqb e.key x && true) e.offer w) es x d s.2 h)

-- The same of the statuses in a whole sound list; the offer that a status stands for has it as its word.
module _ (es : List Entry) (x d : ℕ) (s : Sound es) where
  pub status_is_word : is_offer_word (status_in es x d) ≡ true
  unfolding is_offer_word offer_of
  status_is_word = ap is_offer_word (starts_closed es x d) ∙ status_word 0 0 0 0 es x d s refl

  pub offer_held : offer_of (status_in es x d) ≡ Some (offer_in es x d)
  unfolding offer_in is_offer_word
  offer_held = go (offer_of (status_in es x d)) status_is_word
    where
      go : (o : Option Offer) → is_some o ≡ true → o ≡ Some (held_offer o)
      go (Some o) h = refl
      go None h = absurd (false≢true h)

  pub offer_word : word_of (offer_in es x d) ≡ status_in es x d
  offer_word = (only_word (status_in es x d) (offer_in es x d) offer_held).0

-- What any word stands for is in range.
pub held_in_range : (w : ℕ) → in_range (held_offer (offer_of w)) ≡ true
unfolding in_range
held_in_range w = go (offer_of w) refl
  where
    go : (s : Option Offer) → offer_of w ≡ s → in_range (held_offer s) ≡ true
    go (Some o) e = (only_word w o e).1
    go None e = refl
