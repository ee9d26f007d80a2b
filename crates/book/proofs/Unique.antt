-- The entries of a sound list are its change days: two sound lists with the same status for every code and day are the same.
-- Assumes nothing.
use mathlib.Core.Path.{◌≡◌, refl, ap, ap₂, sym, subst, ◌∙◌}
use mathlib.Core.Bool.{true}
use mathlib.Core.List.{List, [], ◌∷◌}
use Prim.Native.Nat.{ℕ, suc, ◌≤◌, ◌<◌}
use native.Mathlib.Omega.{arith}
use lib.ListN.{length}
use Rattle.dial_code.proofs.Tests.{below, equal, above, order}
use Rattle.book_words.specs.Layout.{period_of, received_of, latest_of, entry, entries_of, book_of}
use Rattle.book.specs.Soundness.{sound}
use Rattle.book.specs.Status.{status_from, status_in}
use Rattle.book_words.specs.declared.Entry.{Entry}
use Rattle.book.proofs.SoundLists.{After, same, next, SoundFrom, Sound, after_key, entries_sound}
use Rattle.book.proofs.Statuses.{Before, smaller, earlier, before_on}
use Rattle.book.proofs.Statuses.{gives, other_key, stands_later, untouched, starts_closed}
use Rattle.book.proofs.SoundBooks.{book_back}

-- Two lists agree after a state: on its key from its day on, with its status so far, and on every larger key.
record Agree (k n o : ℕ) (es fs : List Entry) : Type 0 where
  here : (d : ℕ) → n ≤ d → status_from o es k d ≡ status_from o fs k d
  past : (x d : ℕ) → k < x → status_from 0 es x d ≡ status_from 0 fs x d

turn : (k n o : ℕ) (es fs : List Entry) → Agree k n o es fs → Agree k n o fs es
turn k n o es fs a = record { here = λ d h. sym (a.here d h); past = λ x d h. sym (a.past x d h) }

-- the status that an entry gives on its own day
own_day :
    (k n o w : ℕ) (e : Entry) (es : List Entry)
    → SoundFrom k n o (e ∷ es)
    → status_from w (e ∷ es) e.key e.day ≡ e.offer
unfolding SoundFrom
own_day k n o w e es s =
    gives w e es e.key e.day refl (omega arith)
    ∙ untouched e.key (suc e.day) e.offer e.offer es e.key e.day s.2 (earlier refl (omega arith))

-- no list that agrees has no change on the day of the first entry
no_change :
    (k n o : ℕ) (e : Entry) (es fs : List Entry)
    → SoundFrom k n o (e ∷ es)
    → Agree k n o (e ∷ es) fs
    → ((w : ℕ) → status_from w fs e.key e.day ≡ w)
    → ⊥
unfolding SoundFrom
no_change k n o e es fs s a g =
    elim s.0 [
      | same q m u ↦ u (sym (own_day k n o o e es s) ∙ ap (λ (x : ℕ). status_from o (e ∷ es) x e.day) q ∙ a.here e.day m
          ∙ ap (λ (x : ℕ). status_from o fs x e.day) (sym q) ∙ g o)
      | next q u ↦ u (sym (own_day k n o 0 e es s) ∙ a.past e.key e.day q ∙ g 0)
    ]

-- so neither list begins before the other
not_before :
    (k n o : ℕ) (e f : Entry) (es fs : List Entry)
    → SoundFrom k n o (e ∷ es)
    → SoundFrom k n o (f ∷ fs)
    → Agree k n o (e ∷ es) (f ∷ fs)
    → Before f.key f.day e.key e.day
    → ⊥
unfolding SoundFrom
not_before k n o e f es fs s t a b =
    no_change k n o e es (f ∷ fs) s a
    (λ w. stands_later w f fs e.key e.day b
    ∙ untouched f.key (suc f.day) f.offer w fs e.key e.day t.2 (before_on b))

-- where both begin on the same day of the same key, they begin with the same status, and go on in agreement
same_offer :
    (k n o : ℕ) (e f : Entry) (es fs : List Entry)
    → SoundFrom k n o (e ∷ es)
    → SoundFrom k n o (f ∷ fs)
    → Agree k n o (e ∷ es) (f ∷ fs)
    → e.key ≡ f.key
    → e.day ≡ f.day
    → e.offer ≡ f.offer
unfolding SoundFrom
same_offer k n o e f es fs s t a p q =
    elim s.0 [
      | same r m u ↦
          sym (own_day k n o o e es s)
          ∙ ap (λ (x : ℕ). status_from o (e ∷ es) x e.day) r
          ∙ a.here e.day m
          ∙ ap₂ (λ (x d : ℕ). status_from o (f ∷ fs) x d) (sym r ∙ p) q
          ∙ own_day k n o o f fs t
      | next r u ↦
          sym (own_day k n o 0 e es s)
          ∙ a.past e.key e.day r
          ∙ ap₂ (λ (x d : ℕ). status_from 0 (f ∷ fs) x d) p q
          ∙ own_day k n o 0 f fs t
    ]

go_on :
    (k n o : ℕ) (e : Entry) (es fs : List Entry)
    → After k n o e
    → Agree k n o (e ∷ es) (e ∷ fs)
    → Agree e.key (suc e.day) e.offer es fs
go_on k n o e es fs s a = record { here = λ d h. after s d h; past = λ x d h. larger x d h }
  where
    by : (w d : ℕ) → suc e.day ≤ d → status_from w (e ∷ es) e.key d ≡ status_from w (e ∷ fs) e.key d
        → status_from e.offer es e.key d ≡ status_from e.offer fs e.key d
    by w d h q = sym (gives w e es e.key d refl (omega arith)) ∙ q ∙ gives w e fs e.key d refl (omega arith)

    after : After k n o e → (d : ℕ) → suc e.day ≤ d → status_from e.offer es e.key d ≡ status_from e.offer fs e.key d
    after (same r m u) d h =
        by o d h
        (ap (λ (x : ℕ). status_from o (e ∷ es) x d) r
        ∙ a.here d (omega arith)
        ∙ ap (λ (x : ℕ). status_from o (e ∷ fs) x d) (sym r))
    after (next r u) d h = by 0 d h (a.past e.key d r)

    larger : (x d : ℕ) → e.key < x → status_from 0 es x d ≡ status_from 0 fs x d
    larger x d h =
        let n : e.key ≡ x → ⊥ = λ q. omega arith in
        sym (other_key 0 e es x d n) ∙ a.past x d (omega (arith, after_key s)) ∙ other_key 0 e fs x d n

unique_from : (k n o : ℕ) (es fs : List Entry) → SoundFrom k n o es → SoundFrom k n o fs → Agree k n o es fs → es ≡ fs
unfolding SoundFrom status_from
unique_from k n o [] [] s t a = refl
unique_from k n o [] (f ∷ fs) s t a = absurd (no_change k n o f fs [] t (turn k n o [] (f ∷ fs) a) (λ w. refl))
unique_from k n o (e ∷ es) [] s t a = absurd (no_change k n o e es [] s a (λ w. refl))
unique_from k n o (e ∷ es) (f ∷ fs) s t a =
    elim (order e.key f.key) [
      | below l ↦ absurd (not_before k n o e f es fs s t a (smaller l))
      | above l ↦ absurd (not_before k n o f e fs es t s (turn k n o (e ∷ es) (f ∷ fs) a) (smaller l))
      | equal p ↦ elim (order e.day f.day) [
        | below l ↦ absurd (not_before k n o e f es fs s t a (earlier p l))
        | above l ↦ absurd (not_before k n o f e fs es t s (turn k n o (e ∷ es) (f ∷ fs) a) (earlier (sym p) l))
        | equal q ↦
            let r = same_offer k n o e f es fs s t a p q in
            let w : e ≡ f = λ i. entry (p i) (q i) (r i) in
            ap₂ ◌∷◌ w
            (unique_from e.key (suc e.day) e.offer es fs
            s.2
            (subst (λ (g : Entry). SoundFrom g.key (suc g.day) g.offer fs) (sym w) t.2)
            (go_on k n o e es fs s.0 (subst (λ (g : Entry). Agree k n o (e ∷ es) (g ∷ fs)) (sym w) a)))
      ]
    ]

-- Two sound lists with the same status for every code and day are the same.
pub unique : (es fs : List Entry) → Sound es → Sound fs → ((x d : ℕ) → status_in es x d ≡ status_in fs x d) → es ≡ fs
unique es fs s t g =
    unique_from 0 0 0 es fs s t
    (record { here = λ d h. from 0 d; past = λ x d h. from x d })
  where
    from : (x d : ℕ) → status_from 0 es x d ≡ status_from 0 fs x d
    from x d = sym (starts_closed es x d) ∙ g x d ∙ starts_closed fs x d

-- Two sound books of one length, with the same header and the same status for every code and day, hold the same words.
pub unique_books :
    (ws vs : List ℕ)
    → sound ws ≡ true
    → sound vs ≡ true
    → length ws ≡ length vs
    → period_of ws ≡ period_of vs
    → received_of ws ≡ received_of vs
    → latest_of ws ≡ latest_of vs
    → ((x d : ℕ) → status_in (entries_of ws) x d ≡ status_in (entries_of vs) x d)
    → ws ≡ vs
unique_books ws vs s t len p r l g =
    let e = unique (entries_of ws) (entries_of vs) (entries_sound ws s) (entries_sound vs t) g in
    book_back ws s ∙ (λ i. book_of (len i) (p i) (r i) (l i) (e i)) ∙ sym (book_back vs t)
