-- The status of a listed code, read off its entries, and the statuses of the entries that follow. Assumes nothing.
use mathlib.Core.Path.{◌≡◌, refl, sym, ◌∙◌}
use mathlib.Core.Bool.{Bool, true, false, cond}
use mathlib.Core.List.{List, [], ◌∷◌}
use Prim.Native.Nat.{ℕ, suc, ◌≤◌, ◌<◌}
use native.Mathlib.Omega.{arith}
use borrow.Author.Tests.{leb-true, leb-false}
use lib.Dec.{leb}
use Rattle.book.specs.Status.{status_from}
use Rattle.book_words.specs.declared.Entry.{Entry}
use Rattle.book.proofs.SoundLists.{After, same, next, SoundFrom}
use Rattle.book.proofs.Statuses.{smaller, gives, other_key, later_day, untouched}
use Rattle.merge_rule.specs.Passes.{rest_from, placed, listed_group, rest_after}
use Rattle.merge_rule.proofs.PassCases.{from_cases, after_cases, placed_cases, group_cases}

-- The entries from a key on have the statuses of those keys, and so have the entries after a key.
pub from_status : (w k : ℕ) (es : List Entry) (x d : ℕ) → k ≤ x → status_from w (rest_from k es) x d ≡ status_from w es x d
unfolding status_from rest_from
from_status w k [] x d h = refl
from_status w k (e ∷ es) x d h =
    from_cases (λ (l : List Entry). status_from w l x d ≡ status_from w (e ∷ es) x d) e es k
    (λ l. from_status w k es x d h ∙ sym (other_key w e es x d (λ (q : e.key ≡ x). omega arith)))
    (λ l. refl)

pub after_status : (w k : ℕ) (es : List Entry) (x d : ℕ) → k < x → status_from w (rest_after k es) x d ≡ status_from w es x d
unfolding status_from rest_after
after_status w k [] x d h = refl
after_status w k (e ∷ es) x d h =
    after_cases (λ (l : List Entry). status_from w l x d ≡ status_from w (e ∷ es) x d) e es k
    (λ p. after_status w k es x d h ∙ sym (other_key w e es x d (λ (q : e.key ≡ x). omega arith)))
    (λ l. refl)

module _ (c : Entry) (d : ℕ) where
  -- before the line's day the statuses are the old ones
  placed_early : (w status : ℕ) → d < c.day → status_from w (placed c status) c.key d ≡ w
  unfolding status_from
  placed_early w status h =
      placed_cases (λ (l : List Entry). status_from w l c.key d ≡ w) c status (λ q. refl) (λ n. later_day w c [] c.key d h)

  group_early :
      (a n o w status : ℕ) (es : List Entry)
      → d < c.day
      → a ≡ c.key
      → SoundFrom a n o es
      → status_from w (listed_group c status es) c.key d ≡ status_from w es c.key d
  unfolding SoundFrom status_from listed_group
  group_early a n o w status [] h q s = placed_early w status h
  group_early a n o w status (e ∷ es) h q s =
      group_cases (λ (l : List Entry). status_from w l c.key d ≡ status_from w (e ∷ es) c.key d) e es c status
      (λ p l. group_early e.key (suc e.day) e.offer (status_from w (e ∷ []) c.key d) e.offer es h p s.2)
      (λ p l.
      group_early e.key (suc e.day) e.offer w status es h p s.2
      ∙ sym (later_day w e es c.key d (omega arith)))
      (λ p.
      placed_early w status h
      ∙ sym
      (other_key w e es c.key d p
      ∙ untouched e.key (suc e.day) e.offer w es c.key d s.2 (smaller (past s.0 p))))
    where
      past : After a n o e → (e.key ≡ c.key → ⊥) → c.key < e.key
      past (same p m z) r = absurd (r (p ∙ q))
      past (next l z) r = omega arith

  -- from the line's day on the status is the line's
  placed_late : (w : ℕ) → c.day ≤ d → status_from w (placed c w) c.key d ≡ c.offer
  unfolding status_from
  placed_late w h =
      placed_cases (λ (l : List Entry). status_from w l c.key d ≡ c.offer) c w
      (λ q. sym q)
      (λ n. gives w c [] c.key d refl h)

  group_late : (w : ℕ) (es : List Entry) → c.day ≤ d → status_from w (listed_group c w es) c.key d ≡ c.offer
  unfolding status_from listed_group
  group_late w [] h = placed_late w h
  group_late w (e ∷ es) h =
      group_cases (λ (l : List Entry). status_from w l c.key d ≡ c.offer) e es c w
      (λ p l. gives w e (listed_group c e.offer es) c.key d p (omega arith) ∙ group_late e.offer es h)
      (λ p l. group_late w es h)
      (λ p. placed_late w h)

  -- The status of a listed code.
  pub group_status :
      (n o w : ℕ) (es : List Entry)
      → SoundFrom c.key n o es
      → status_from w (listed_group c w es) c.key d ≡ cond (leb c.day d) c.offer (status_from w es c.key d)
  group_status n o w es s = go (leb c.day d) refl
    where
      go :
          (t : Bool)
          → leb c.day d ≡ t
          → status_from w (listed_group c w es) c.key d ≡ cond t c.offer (status_from w es c.key d)
      go true e = group_late w es (leb-true c.day d e)
      go false e = group_early c.key n o w w es (leb-false c.day d e) refl s
