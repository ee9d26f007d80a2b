-- The statuses of codes that a notice does not list, read off the entries between its lines. Assumes nothing.
use mathlib.Core.Path.{◌≡◌, refl, ap, sym, ◌∙◌}
use mathlib.Core.Bool.{Bool, true, false, cond, ◌&&◌, true≢false, false≢true}
use mathlib.Core.List.{List, [], ◌∷◌}
use Prim.Native.Nat.{ℕ, suc, ◌≤◌, ◌<◌}
use native.Mathlib.Omega.{arith}
use borrow.Author.Tests.{leb-true, leb-false, ltb-true, eqb-true}
use lib.Dec.{leb}
use Rattle.dial_code.proofs.Tests.{both, and_left_true, below, equal, above, order}
use Rattle.book_words.specs.Layout.{entry}
use Rattle.book.specs.Status.{status_from}
use Rattle.book_words.specs.declared.Entry.{Entry}
use Rattle.book.proofs.SoundLists.{SoundFrom}
use Rattle.book.proofs.Statuses.{smaller, gives, other_key, later_day, stands_later, untouched}
use Rattle.book.proofs.Statuses.{status_append}
use Rattle.merge_rule.specs.Passes.{goes_on, unlisted_one, gap_below}
use Rattle.merge_rule.proofs.PassCases.{unlisted_cases, gap_cases}
use Rattle.merge_rule.proofs.PassKeys.{Keys, Apart, Without, keys_unlisted}

-- entries of other keys change no status
pub without_status : (w : ℕ) (es : List Entry) (x d : ℕ) → Without x es → status_from w es x d ≡ w
unfolding Keys status_from
without_status w [] x d n = refl
without_status w (e ∷ es) x d n = other_key w e es x d n.0 ∙ without_status w es x d n.1

-- whether two keys are the same
pub data Same (a b : ℕ) : Type 0 where
  alike : a ≡ b → Same a b
  unlike : (a ≡ b → ⊥) → Same a b

pub same_key : (a b : ℕ) → Same a b
same_key a b =
    elim (order a b) [
      | below h ↦ unlike (λ q. omega arith)
      | equal h ↦ alike h
      | above h ↦ unlike (λ q. omega arith)
    ]

module _ (closes : ℕ → Bool) (day : ℕ) where
  -- one entry, where the code is not closed on the day
  one_open :
      (w : ℕ) (e : Entry) (es : List Entry) (x d : ℕ)
      → (closes x && leb day d) ≡ false
      → status_from w (unlisted_one closes day e es) x d ≡ status_from w (e ∷ []) x d
  unfolding status_from
  one_open w e es x d c =
      elim (same_key e.key x) [
        | unlike n ↦
            without_status w (unlisted_one closes day e es) x d (keys_unlisted (Apart x) closes day e es n)
            ∙ sym (other_key w e [] x d n)
        | alike q ↦
            unlisted_cases (λ (l : List Entry). status_from w l x d ≡ status_from w (e ∷ []) x d) e es closes day
            (λ t. refl)
            (λ l z. refl)
            (λ l g. refl)
            (λ t l n g. later_day (status_from w (e ∷ []) x d) (entry e.key day 0) [] x d (later q t))
            (λ t l. sym (later_day w e [] x d (omega (arith, later q t))))
      ]
    where
      later : e.key ≡ x → closes e.key ≡ true → d < day
      later q t = leb-false day d (sym (and_left_true (leb day d) (ap closes (sym q) ∙ t)) ∙ c)

  gap_open :
      (a n o w k : ℕ) (es : List Entry) (x d : ℕ)
      → x < k
      → (closes x && leb day d) ≡ false
      → SoundFrom a n o es
      → status_from w (gap_below k closes day es) x d ≡ status_from w es x d
  unfolding SoundFrom status_from gap_below
  gap_open a n o w k [] x d h c s = refl
  gap_open a n o w k (e ∷ es) x d h c s =
      gap_cases (λ (l : List Entry). status_from w l x d ≡ status_from w (e ∷ es) x d) e es k closes day
      (λ l.
      status_append w (unlisted_one closes day e es) (gap_below k closes day es) x d
      ∙ gap_open e.key (suc e.day) e.offer (status_from w (unlisted_one closes day e es) x d) k es x d h c s.2
      ∙ ap (λ (v : ℕ). status_from v es x d) (one_open w e es x d c))
      (λ l.
      let b : x < e.key = omega arith in
      sym
      (stands_later w e es x d (smaller b)
      ∙ untouched e.key (suc e.day) e.offer w es x d s.2 (smaller b)))

  -- Where the code is closed on the day: the status so far is closed, or the next entry is of the code and before the day.
  data Ahead (w x : ℕ) (e : Entry) : Type 0 where
    closed : w ≡ 0 → Ahead w x e
    ahead : e.key ≡ x → e.day < day → Ahead w x e

  unfoldable Ready : ℕ → ℕ → List Entry → Type 0
  Ready w x [] = w ≡ 0
  Ready w x (e ∷ es) = Ahead w x e

  ready_closed : (w x : ℕ) (es : List Entry) → w ≡ 0 → Ready w x es
  unfolding Ready
  ready_closed w x [] z = z
  ready_closed w x (e ∷ es) z = closed z

  ready_ahead : (w x : ℕ) (e : Entry) (es : List Entry) → e.key ≡ x → goes_on day e es ≡ true → Ready w x es
  unfolding Ready goes_on
  ready_ahead w x e [] q g = absurd (false≢true g)
  ready_ahead w x e (f ∷ fs) q g =
      let t = both _ _ g in
      ahead (sym (eqb-true e.key f.key t.0) ∙ q) (ltb-true f.day day t.1)

  not_ahead : {w x : ℕ} {e : Entry} → Ahead w x e → (e.key ≡ x → e.day < day → ⊥) → w ≡ 0
  not_ahead (closed z) n = z
  not_ahead (ahead q l) n = absurd (n q l)

  module _ (x d : ℕ) (c : closes x ≡ true) (m : day ≤ d) where
    one_closed :
        (w : ℕ) (e : Entry) (es : List Entry)
        → Ahead w x e
        → Ready (status_from w (unlisted_one closes day e es) x d) x es
    unfolding status_from
    one_closed w e es r =
        elim (same_key e.key x) [
          | unlike n ↦
              ready_closed _ x es
              (without_status w (unlisted_one closes day e es) x d (keys_unlisted (Apart x) closes day e es n)
              ∙ not_ahead r (λ q l. n q))
          | alike q ↦
              unlisted_cases (λ (l : List Entry). Ready (status_from w l x d) x es) e es closes day
              (λ t. absurd (true≢false (sym c ∙ ap closes (sym q) ∙ t)))
              (λ l z. ready_closed _ x es (gives w e [] x d q (omega arith) ∙ z))
              (λ l g. ready_ahead _ x e es q g)
              (λ t l n g. ready_closed _ x es (gives (status_from w (e ∷ []) x d) (entry e.key day 0) [] x d q m))
              (λ t l. ready_closed _ x es (not_ahead r (λ (p : e.key ≡ x) (b : e.day < day). omega arith)))
        ]

    gap_closed : (w k : ℕ) (es : List Entry) → x < k → Ready w x es → status_from w (gap_below k closes day es) x d ≡ 0
    unfolding status_from gap_below Ready
    gap_closed w k [] h r = r
    gap_closed w k (e ∷ es) h r =
        gap_cases (λ (l : List Entry). status_from w l x d ≡ 0) e es k closes day
        (λ l.
        status_append w (unlisted_one closes day e es) (gap_below k closes day es) x d
        ∙ gap_closed (status_from w (unlisted_one closes day e es) x d) k es h (one_closed w e es r))
        (λ l. not_ahead r (λ (q : e.key ≡ x) (b : e.day < day). omega arith))

  -- The status of an unlisted code: closed from the closing day on where the notice closes it, else as it was.
  pub gap_status :
      (a n o k : ℕ) (es : List Entry) (x d : ℕ)
      → x < k
      → SoundFrom a n o es
      → status_from 0 (gap_below k closes day es) x d ≡ cond (closes x && leb day d) 0 (status_from 0 es x d)
  gap_status a n o k es x d h s = go (closes x && leb day d) refl
    where
      go :
          (t : Bool)
          → (closes x && leb day d) ≡ t
          → status_from 0 (gap_below k closes day es) x d ≡ cond t 0 (status_from 0 es x d)
      go true e =
          let b = both _ _ e in
          gap_closed x d b.0 (leb-true day d b.1) 0 k es h (ready_closed 0 x es refl)
      go false e = gap_open a n o 0 k es x d h e s
