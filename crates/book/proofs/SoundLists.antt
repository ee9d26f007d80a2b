-- Soundness of entries as facts, with a state that inductions carry: the key, the earliest day and the status so far. A list is
-- sound from key 0, day 0 and status closed exactly where the rule's test says so. Assumes nothing.
use mathlib.Core.Path.{◌≡◌, refl, ap, sym, ◌∙◌}
use mathlib.Core.Bool.{Bool, true, false, cond, ◌&&◌, not}
use mathlib.Core.List.{List, [], ◌∷◌}
use Prim.Native.Nat.{ℕ, zero, suc, ◌≤◌, ◌<◌}
use native.Mathlib.Omega.{arith}
use borrow.Author.Tests.{leb-true, ltb-true, eqb-true, eqb-false, not-true, ne_eqb}
use lib.Dec.{eqb, ltb}
use lib.ListN.{length}
use Rattle.allowed_code.specs.Code.{is_code_key}
use Rattle.dial_code.proofs.Tests.{both, and_left_true, Order, below, equal, above, order}
use Rattle.calendar.specs.Time.{last_day}
use Rattle.book_words.specs.Layout.{entries_of}
use Rattle.book.specs.Soundness.{is_offer_word, in_range, begins, follows, sound_after, sound_entries, sound}
use Rattle.book_words.specs.declared.Entry.{Entry}
use Rattle.book.proofs.Rules.{range_test, begins_test, follows_test, none_after, one_after, no_entries, some_entries}
use Rattle.book.proofs.Rules.{by_word, by_key, changed, larger_key}
use Rattle.book_words.proofs.Rows.{entry_in}
use Rattle.book.proofs.Headers.{sound_book}

-- What every entry of a sound list is: the key of an allowed code, a day and an offer word in range.
pub record Allowed (e : Entry) : Type 0 where
  pub code : is_code_key e.key ≡ true
  pub day_most : e.day ≤ last_day
  pub offer_word : is_offer_word e.offer ≡ true

-- An entry after key k, from day n on where it is of the same key, with another status than o, or than closed where it is of
-- another key.
pub data After (k n o : ℕ) (e : Entry) : Type 0 where
  same : e.key ≡ k → n ≤ e.day → (e.offer ≡ o → ⊥) → After k n o e
  next : k < e.key → (e.offer ≡ 0 → ⊥) → After k n o e

-- A list that is sound after key k, from day n on, with status o so far; and a sound list.
unfoldable pub SoundFrom : ℕ → ℕ → ℕ → List Entry → Type 0
SoundFrom k n o [] = Unit {0}
SoundFrom k n o (e ∷ es) = After k n o e × Allowed e × SoundFrom e.key (suc e.day) e.offer es

abbrev pub Sound : List Entry → Type 0
Sound es = SoundFrom 0 0 0 es

range_facts : (e : Entry) → in_range e ≡ true → (e.day ≤ last_day) × (is_offer_word e.offer ≡ true)
range_facts e h =
    let a = both _ _ (sym (range_test e) ∙ h) in
    (leb-true e.day last_day a.0, a.1)

pub begins_facts : (e : Entry) → begins e ≡ true → (e.offer ≡ 0 → ⊥) × Allowed e
begins_facts e h =
    let a = both _ _ (sym (begins_test e) ∙ h) in
    let b = both _ _ a.1 in
    let r = range_facts e b.1 in
    (eqb-false e.offer 0 (not-true _ b.0), record { code = a.0; day_most = r.0; offer_word = r.1 })

facts_begin : (e : Entry) → (e.offer ≡ 0 → ⊥) → Allowed e → begins e ≡ true
facts_begin e n a = by_key e (rw (ne_eqb e.offer 0 n) (by_word e a.day_most ∙ a.offer_word)) ∙ a.code

pub follows_facts : (e f : Entry) → Allowed e → follows e f ≡ true → After e.key (suc e.day) e.offer f × Allowed f
follows_facts e f l h = go (eqb e.key f.key) refl (sym (follows_test e f) ∙ h)
  where
    go : (t : Bool) → eqb e.key f.key ≡ t
        → cond t
        (ltb e.day f.day && (not (eqb e.offer f.offer) && in_range f))
        (ltb e.key f.key && begins f)
        ≡ true
        → After e.key (suc e.day) e.offer f × Allowed f
    go true q r =
        let a = both _ _ r in
        let b = both _ _ a.1 in
        let g = range_facts f b.1 in
        let k : e.key ≡ f.key = eqb-true _ _ q in (
          same (sym k) (ltb-true e.day f.day a.0) (λ z. eqb-false e.offer f.offer (not-true _ b.0) (sym z)),
          record { code = ap is_code_key (sym k) ∙ l.code; day_most = g.0; offer_word = g.1 },
        )
    go false q r =
        let a = both _ _ r in
        let g = begins_facts f a.1 in
        (next (ltb-true e.key f.key a.0) g.0, g.1)

facts_follow : (e f : Entry) → After e.key (suc e.day) e.offer f → Allowed f → follows e f ≡ true
facts_follow e f (same k d n) a = changed e f (sym k) d (λ z. n (sym z)) ∙ by_word f a.day_most ∙ a.offer_word
facts_follow e f (next k n) a = larger_key e f k ∙ facts_begin f n a

after_facts : (e : Entry) (es : List Entry) → Allowed e → sound_after e es ≡ true → SoundFrom e.key (suc e.day) e.offer es
unfolding SoundFrom
after_facts e [] l h = tt
after_facts e (f ∷ fs) l h =
    let a = both _ _ (sym (one_after e f fs) ∙ h) in
    let g = follows_facts e f l a.0 in
    (g.0, g.1, after_facts f fs g.1 a.1)

facts_after : (e : Entry) (es : List Entry) → SoundFrom e.key (suc e.day) e.offer es → sound_after e es ≡ true
unfolding SoundFrom
facts_after e [] s = none_after e
facts_after e (f ∷ fs) s = one_after e f fs ∙ and_left_true _ (facts_follow e f s.0 s.1) ∙ facts_after f fs s.2

-- The rule's test and the facts, both ways.
pub to_sound : (es : List Entry) → sound_entries es ≡ true → Sound es
unfolding SoundFrom
to_sound [] h = tt
to_sound (e ∷ es) h =
    let a = both _ _ (sym (some_entries e es) ∙ h) in
    let g = begins_facts e a.0 in
    (first (order 0 e.key) g.0, g.1, after_facts e es g.1 a.1)
  where
    first : Order 0 e.key → (e.offer ≡ 0 → ⊥) → After 0 0 0 e
    first (below l) n = next l n
    first (equal l) n = same (sym l) (omega arith) n
    first (above l) n = absurd (omega arith)

pub from_sound : (es : List Entry) → Sound es → sound_entries es ≡ true
unfolding SoundFrom
from_sound [] s = no_entries
from_sound (e ∷ es) s =
    some_entries e es ∙ and_left_true _ (facts_begin e (not_closed s.0) s.1) ∙ facts_after e es s.2
  where
    not_closed : After 0 0 0 e → e.offer ≡ 0 → ⊥
    not_closed (same k d n) = n
    not_closed (next k n) = n

-- The entries of a sound book.
pub entries_sound : (ws : List ℕ) → sound ws ≡ true → Sound (entries_of ws)
entries_sound ws s = to_sound (entries_of ws) (sound_book ws s).entries

-- Every entry of a sound list has a code's key, a day and an offer word in range.
pub each_allowed : (k n o : ℕ) (es : List Entry) (i : ℕ) → SoundFrom k n o es → i < length es → Allowed (entry_in es i)
unfolding SoundFrom
each_allowed k n o [] i s h = absurd (omega arith)
each_allowed k n o (e ∷ es) zero s h = s.1
each_allowed k n o (e ∷ es) (suc i) s h = each_allowed e.key (suc e.day) e.offer es i s.2 (omega arith)

-- An entry after a state has its key or a larger one.
pub after_key : {k n o : ℕ} {e : Entry} → After k n o e → k ≤ e.key
after_key (same q d n) = omega arith
after_key (next q n) = omega arith

-- Keys rise: those of a list that is sound after a key are not smaller.
pub keys_rise : (k n o : ℕ) (es : List Entry) (i : ℕ) → SoundFrom k n o es → i < length es → k ≤ (entry_in es i).key
unfolding SoundFrom
keys_rise k n o [] i s h = absurd (omega arith)
keys_rise k n o (e ∷ es) zero s h = after_key s.0
keys_rise k n o (e ∷ es) (suc i) s h =
    omega (arith, after_key s.0, keys_rise e.key (suc e.day) e.offer es i s.2 (omega arith))
