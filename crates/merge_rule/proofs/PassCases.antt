-- The passes over entries by cases: what holds of each case's entries holds of the pass. Assumes nothing.
use mathlib.Core.Path.{◌≡◌, refl}
use mathlib.Core.Bool.{Bool, true, false, cond, ◌||◌}
use mathlib.Core.List.{List, [], ◌∷◌, ◌++◌, append_assoc}
use Prim.Native.Nat.{ℕ, ◌≤◌, ◌<◌}
use borrow.Author.Tests.{ltb-true, ltb-false, eqb-true, eqb-false}
use lib.Dec.{eqb, ltb}
use Rattle.book_words.specs.Layout.{entry}
use Rattle.book_words.specs.declared.Entry.{Entry}
use Rattle.merge_rule.specs.Passes.{goes_on, closed_one, unlisted_as, unlisted_one, gap_below, rest_from, placed, listed_group, rest_after, line_entries, line_rest, merged}

module _ (P : List Entry → Type 0) where
  chosen : (t : Bool) (xs ys : List Entry) → (t ≡ true → P xs) → (t ≡ false → P ys) → P (cond t xs ys)
  chosen true xs ys f g = f refl
  chosen false xs ys f g = g refl

  either :
      (s t : Bool) (xs ys : List Entry)
      → (s ≡ true → P xs)
      → (t ≡ true → P xs)
      → (s ≡ false → t ≡ false → P ys)
      → P (cond (s || t) xs ys)
  either true t xs ys f g h = f refl
  either false true xs ys f g h = g refl
  either false false xs ys f g h = h refl refl

  pub placed_cases :
      (c : Entry) (status : ℕ)
      → (c.offer ≡ status → P [])
      → ((c.offer ≡ status → ⊥) → P (c ∷ []))
      → P (placed c status)
  unfolding placed
  placed_cases c status f g =
      chosen (eqb c.offer status) [] (c ∷ []) (λ t. f (eqb-true _ _ t)) (λ t. g (eqb-false _ _ t))

  module _ (e : Entry) (es : List Entry) where
    -- an entry of a code that the notice does not list: kept as it is, kept closed, kept before another, kept with a closing,
    -- or gone
    pub unlisted_cases :
        (closes : ℕ → Bool) (day : ℕ)
        → (closes e.key ≡ false → P (e ∷ []))
        → (e.day < day → e.offer ≡ 0 → P (e ∷ []))
        → (e.day < day → goes_on day e es ≡ true → P (e ∷ []))
        → (closes e.key ≡ true
        → e.day < day
        → (e.offer ≡ 0 → ⊥)
        → goes_on day e es ≡ false
        → P (e ∷ entry e.key day 0 ∷ []))
        → (closes e.key ≡ true → day ≤ e.day → P [])
        → P (unlisted_one closes day e es)
    unfolding unlisted_as closed_one
    unlisted_cases closes day kept closed before closing gone =
        chosen (closes e.key) _ _
        (λ c.
        chosen (ltb e.day day) _ _
        (λ t.
        let l = ltb-true e.day day t in
        either (eqb e.offer 0) (goes_on day e es) _ _
        (λ z. closed l (eqb-true e.offer 0 z))
        (λ g. before l g)
        (λ z g. closing c l (eqb-false e.offer 0 z) g))
        (λ t. gone c (ltb-false e.day day t)))
        kept

    pub gap_cases :
        (k : ℕ) (closes : ℕ → Bool) (day : ℕ)
        → (e.key < k → P (unlisted_one closes day e es ++ gap_below k closes day es))
        → (k ≤ e.key → P [])
        → P (gap_below k closes day (e ∷ es))
    unfolding gap_below
    gap_cases k closes day f g =
        chosen (ltb e.key k) _ _ (λ t. f (ltb-true e.key k t)) (λ t. g (ltb-false e.key k t))

    pub from_cases : (k : ℕ) → (e.key < k → P (rest_from k es)) → (k ≤ e.key → P (e ∷ es)) → P (rest_from k (e ∷ es))
    unfolding rest_from
    from_cases k f g = chosen (ltb e.key k) _ _ (λ t. f (ltb-true e.key k t)) (λ t. g (ltb-false e.key k t))

    pub after_cases : (k : ℕ) → (e.key ≡ k → P (rest_after k es)) → ((e.key ≡ k → ⊥) → P (e ∷ es)) → P (rest_after k (e ∷ es))
    unfolding rest_after
    after_cases k f g = chosen (eqb e.key k) _ _ (λ t. f (eqb-true e.key k t)) (λ t. g (eqb-false e.key k t))

    -- an entry of a listed code's group: kept before the line's day, gone from it on, or of another code
    pub group_cases :
        (c : Entry) (status : ℕ)
        → (e.key ≡ c.key → e.day < c.day → P (e ∷ listed_group c e.offer es))
        → (e.key ≡ c.key → c.day ≤ e.day → P (listed_group c status es))
        → ((e.key ≡ c.key → ⊥) → P (placed c status))
        → P (listed_group c status (e ∷ es))
    unfolding listed_group
    group_cases c status kept gone other =
        chosen (eqb e.key c.key) _ _
        (λ t.
        let q = eqb-true e.key c.key t in
        chosen (ltb e.day c.day) _ _
        (λ l. kept q (ltb-true e.day c.day l))
        (λ l. gone q (ltb-false e.day c.day l)))
        (λ t. other (eqb-false e.key c.key t))

-- A line's part of the new entries, and what comes after it.
pub in_parts :
    (end : ℕ) (closes : ℕ → Bool) (day : ℕ) (es cs : List Entry) (c : Entry)
    → merged end closes day es (c ∷ cs)
    ≡ gap_below c.key closes day es
    ++ (listed_group c 0 (rest_from c.key es) ++ merged end closes day (rest_after c.key (rest_from c.key es)) cs)
unfolding merged line_entries line_rest
in_parts end closes day es cs c = append_assoc (gap_below c.key closes day es) (listed_group c 0 (rest_from c.key es)) _
