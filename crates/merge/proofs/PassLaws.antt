-- The passes over old entries, one entry at a time. Assumes nothing.
use mathlib.Core.Path.{◌≡◌, refl, ap, sym, ◌∙◌}
use mathlib.Core.Bool.{Bool, true, false, cond, ◌||◌}
use mathlib.Core.List.{List, [], ◌∷◌, ◌++◌, append-nil}
use Prim.Native.Nat.{ℕ, ◌+◌, ◌≤◌, ◌<◌}
use native.Mathlib.Omega.{arith}
use borrow.Author.Tests.{lt-ltb, le-ltb, eq-eqb, ne_eqb}
use lib.Dec.{eqb, ltb}
use lib.ListN.{length, length-append}
use Rattle.book_words.specs.Layout.{entry}
use Rattle.book_words.specs.declared.Entry.{Entry}
use Rattle.merge_rule.specs.Passes.{goes_on, closed_one, unlisted_as, gap_below, rest_from, placed, listed_group}
use Rattle.merge_rule.specs.Passes.{kept_of, status_of, rest_after}

-- At most two entries stay of one whose code is not listed.
module _ (day : ℕ) (e : Entry) (fs : List Entry) where
  pub at_most_two : (t : Bool) → length (unlisted_as t day e fs) ≤ 2
  unfolding unlisted_as closed_one
  at_most_two false = omega arith
  at_most_two true = go (ltb e.day day) (eqb e.offer 0 || goes_on day e fs)
    where
      go : (t u : Bool) → length (cond t (cond u (e ∷ []) (e ∷ entry e.key day 0 ∷ [])) []) ≤ 2
      go true true = omega arith
      go true false = omega arith
      go false u = omega arith

-- The entries below a key, where the next is one of them, is not, or is none.
module _ (k : ℕ) (closes : ℕ → Bool) (day : ℕ) where
  module _ {es : List Entry} (e : Entry) (fs : List Entry) (q : es ≡ e ∷ fs) where
    pub gap_on :
        {closed : Bool}
        → e.key < k
        → closed ≡ closes e.key
        → gap_below k closes day es ≡ unlisted_as closed day e fs ++ gap_below k closes day fs
    unfolding gap_below
    gap_on h c = rw (q, c, lt-ltb _ _ h)

    pub gap_stops : k ≤ e.key → gap_below k closes day es ≡ []
    unfolding gap_below
    gap_stops h = rw (q, le-ltb _ _ h)

  pub gap_none : {es : List Entry} → es ≡ [] → gap_below k closes day es ≡ []
  unfolding gap_below
  gap_none q = rw q

module _ (k : ℕ) where
  module _ {es : List Entry} (e : Entry) (fs : List Entry) (q : es ≡ e ∷ fs) where
    pub rest_on : e.key < k → rest_from k es ≡ rest_from k fs
    unfolding rest_from
    rest_on h = rw (q, lt-ltb _ _ h)

-- The entries of a listed code are those kept, and then the line's.
pub listed_split :
    (c : Entry) (status : ℕ) (es : List Entry)
    → listed_group c status es ≡ kept_of c es ++ placed c (status_of c status es)
unfolding listed_group kept_of status_of
listed_split c status [] = refl
listed_split c status (e ∷ es) =
    go (eqb e.key c.key) (ltb e.day c.day) (listed_split c e.offer es) (listed_split c status es)
  where
    go :
        (t u : Bool)
        → listed_group c e.offer es ≡ kept_of c es ++ placed c (status_of c e.offer es)
        → listed_group c status es ≡ kept_of c es ++ placed c (status_of c status es)
        → cond t (cond u (e ∷ listed_group c e.offer es) (listed_group c status es)) (placed c status)
        ≡ cond t (cond u (e ∷ kept_of c es) (kept_of c es)) []
        ++ placed c (cond t (cond u (status_of c e.offer es) (status_of c status es)) status)
    go true true p q = ap (λ (fs : List Entry). e ∷ fs) p
    go true false p q = q
    go false u p q = refl

module _ (c : Entry) (es : List Entry) {status : ℕ} (q : status ≡ status_of c 0 es) where
  pub listed_same : status ≡ c.offer → listed_group c 0 es ≡ kept_of c es
  unfolding placed
  listed_same h =
      let same : c.offer ≡ status_of c 0 es = sym h ∙ q in
      listed_split c 0 es ∙ rw (eq-eqb _ _ same) (append-nil (kept_of c es))

  pub listed_new : (status ≡ c.offer → ⊥) → listed_group c 0 es ≡ kept_of c es ++ (c ∷ [])
  unfolding placed
  listed_new h = listed_split c 0 es ∙ rw (ne_eqb c.offer (status_of c 0 es) (λ s. h (q ∙ sym s)))

  pub listed_more : (status ≡ c.offer → ⊥) → length (listed_group c 0 es) ≡ length (kept_of c es) + 1
  listed_more h = rw (listed_new h) (length-append (kept_of c es) (c ∷ []))

-- How many entries of a code are kept.
pub kept_most : (c : Entry) (es : List Entry) → length (kept_of c es) + length (rest_after c.key es) ≤ length es
unfolding kept_of rest_after
kept_most c [] = omega arith
kept_most c (e ∷ es) = go (eqb e.key c.key) (ltb e.day c.day) (kept_most c es)
  where
    go :
        (t u : Bool)
        → length (kept_of c es) + length (rest_after c.key es) ≤ length es
        → length (cond t (cond u (e ∷ kept_of c es) (kept_of c es)) []) + length (cond t (rest_after c.key es) (e ∷ es))
        ≤ length (e ∷ es)
    go true true h = omega arith
    go true false h = omega arith
    go false u h = omega arith
