-- Entries beyond a key: sound, and all of larger keys. Assumes nothing.
use mathlib.Core.Path.{◌≡◌, refl, ap, sym, ◌∙◌}
use mathlib.Core.Bool.{true, true≢false}
use mathlib.Core.List.{List, [], ◌∷◌}
use Prim.Native.Nat.{ℕ, suc, ◌+◌, ◌≤◌, ◌<◌}
use native.Mathlib.Omega.{arith}
use Rattle.calendar.specs.Time.{last_day}
use Rattle.allowed_code.specs.Code.{is_code_key}
use Rattle.dial_code.specs.Key.{keys_end}
use Rattle.dial_code.proofs.Tests.{Order, below, equal, above, order}
use Rattle.allowed_code.proofs.CodeLaws.{beyond_keys, no_first_digit}
use Rattle.book.specs.Soundness.{sound_entries}
use Rattle.book_words.specs.declared.Entry.{Entry}
use Rattle.book.proofs.SoundLists.{Allowed, After, same, next, SoundFrom, Sound, to_sound, after_key}
use Rattle.merge_rule.specs.Passes.{rest_from, rest_after}
use Rattle.merge_rule.proofs.PassCases.{from_cases, after_cases}
use Rattle.merge_rule.proofs.PassKeys.{Keys}

-- a list that is sound after key k, from a day on that no entry of key k has
abbrev pub Beyond : ℕ → List Entry → Type 0
Beyond k es = SoundFrom k (last_day + 1) 0 es

beyond_key : {k : ℕ} {e : Entry} → Allowed e → After k (last_day + 1) 0 e → (k < e.key) × (e.offer ≡ 0 → ⊥)
beyond_key a (same q m n) = absurd (omega (arith, a.day_most))
beyond_key a (next l n) = (l, n)

-- the keys of a sound list do not fall, and beyond a key they are larger
keys_sound : (P : ℕ → Type 0) (k n o : ℕ) (es : List Entry) → ((j : ℕ) → k ≤ j → P j) → SoundFrom k n o es → Keys P es
unfolding Keys SoundFrom
keys_sound P k n o [] f s = tt
keys_sound P k n o (e ∷ es) f s =
    let l = after_key s.0 in
    (f e.key l, keys_sound P e.key (suc e.day) e.offer es (λ j h. f j (omega arith)) s.2)

pub keys_beyond : (P : ℕ → Type 0) (k : ℕ) (es : List Entry) → ((j : ℕ) → k < j → P j) → Beyond k es → Keys P es
unfolding Keys SoundFrom
keys_beyond P k [] f s = tt
keys_beyond P k (e ∷ es) f s =
    let l = (beyond_key s.1 s.0).0 in
    (f e.key l, keys_sound P e.key (suc e.day) e.offer es (λ j h. f j (omega arith)) s.2)

-- the keys of a sound list are below the end of all keys
keys_end_law : (end k n o : ℕ) (es : List Entry) → keys_end ≤ end → SoundFrom k n o es → Keys (λ j. j < end) es
unfolding Keys SoundFrom
keys_end_law end k n o [] h s = tt
keys_end_law end k n o (e ∷ es) h s = (within (order e.key end), keys_end_law end e.key (suc e.day) e.offer es h s.2)
  where
    none : end ≤ e.key → ⊥
    none l = true≢false (sym s.1.code ∙ beyond_keys e.key (omega arith))

    within : Order e.key end → e.key < end
    within (below l) = l
    within (equal l) = absurd (none (omega arith))
    within (above l) = absurd (none (omega arith))

pub sound_keys : (end : ℕ) (es : List Entry) → keys_end ≤ end → sound_entries es ≡ true → Keys (λ j. j < end) es
sound_keys end es h s = keys_end_law end 0 0 0 es h (to_sound es s)

-- what is beyond a key is sound after every state of the key
pub beyond_sound : (k n o : ℕ) (es : List Entry) → Beyond k es → SoundFrom k n o es
unfolding SoundFrom
beyond_sound k n o [] s = tt
beyond_sound k n o (e ∷ es) s =
    let b = beyond_key s.1 s.0 in
    (next b.0 b.1, s.1, s.2)

-- what begins at a key is sound after every state of a smaller key
pub begins_sound : (a n o k : ℕ) (es : List Entry) → a < k → SoundFrom k 0 0 es → SoundFrom a n o es
unfolding SoundFrom
begins_sound a n o k [] h s = tt
begins_sound a n o k (e ∷ es) h s = (opens s.0, s.1, s.2)
  where
    opens : After k 0 0 e → After a n o e
    opens (same q m z) = next (omega arith) z
    opens (next l z) = next (omega arith) z

-- a sound list is beyond key 0
pub sound_beyond : (es : List Entry) → Sound es → Beyond 0 es
unfolding SoundFrom
sound_beyond [] s = tt
sound_beyond (e ∷ es) s = (opens s.0, s.1, s.2)
  where
    opens : After 0 0 0 e → After 0 (last_day + 1) 0 e
    opens (same q m z) = absurd (true≢false (sym s.1.code ∙ ap is_code_key q ∙ no_first_digit 0 (omega arith)))
    opens (next l z) = next l z

-- the entries from a key on begin there
pub from_begins : (a n o k : ℕ) (es : List Entry) → a < k → SoundFrom a n o es → SoundFrom k 0 0 (rest_from k es)
unfolding SoundFrom rest_from
from_begins a n o k [] h s = tt
from_begins a n o k (e ∷ es) h s =
    from_cases (SoundFrom k 0 0) e es k
    (λ l. from_begins e.key (suc e.day) e.offer k es l s.2)
    (λ l. (opens s.0 l, s.1, s.2))
  where
    opens : After a n o e → k ≤ e.key → After k 0 0 e
    opens (same q m z) l = absurd (omega arith)
    opens (next q z) l =
        elim (order k e.key) [
          | below m ↦ next m z
          | equal m ↦ same (sym m) (omega arith) z
          | above m ↦ absurd (omega arith)
        ]

-- the entries after a key are beyond it
after_beyond : (a n o k : ℕ) (es : List Entry) → a ≡ k → SoundFrom a n o es → Beyond k (rest_after k es)
unfolding SoundFrom rest_after
after_beyond a n o k [] h s = tt
after_beyond a n o k (e ∷ es) h s =
    after_cases (Beyond k) e es k
    (λ q. after_beyond e.key (suc e.day) e.offer k es q s.2)
    (λ q. (opens s.0 q, s.1, s.2))
  where
    opens : After a n o e → (e.key ≡ k → ⊥) → After k (last_day + 1) 0 e
    opens (same q m z) r = absurd (r (q ∙ h))
    opens (next q z) r = next (omega arith) z

-- What is left behind a line: the entries after its key.
abbrev pub behind : ℕ → List Entry → List Entry
behind k es = rest_after k (rest_from k es)

pub behind_beyond : (a k : ℕ) (es : List Entry) → a < k → Beyond a es → Beyond k (behind k es)
behind_beyond a k es h s = after_beyond k 0 0 k (rest_from k es) refl (from_begins a (last_day + 1) 0 k es h s)
