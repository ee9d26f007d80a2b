-- The keys of the passes' entries: a property of all keys of a list is one of all keys of its passes. Assumes nothing.
use mathlib.Core.Path.{◌≡◌, sym, subst}
use mathlib.Core.Bool.{Bool}
use mathlib.Core.List.{List, [], ◌∷◌, ◌++◌}
use Prim.Native.Nat.{ℕ, ◌<◌}
use Rattle.book_words.specs.declared.Entry.{Entry}
use Rattle.merge_rule.specs.Passes.{unlisted_one, gap_below, rest_from, placed, listed_group, rest_after, merged}
use Rattle.merge_rule.proofs.PassCases.{in_parts, unlisted_cases, gap_cases, from_cases, after_cases, placed_cases, group_cases}

-- every key of a list has a property
unfoldable pub Keys : (ℕ → Type 0) → List Entry → Type 0
Keys P [] = Unit {0}
Keys P (e ∷ es) = P e.key × Keys P es

-- no entry is of key x
abbrev pub Apart : ℕ → ℕ → Type 0
Apart x k = k ≡ x → ⊥

abbrev pub Without : ℕ → List Entry → Type 0
Without x es = Keys (Apart x) es

pub keys_map : (P Q : ℕ → Type 0) (es : List Entry) → ((k : ℕ) → P k → Q k) → Keys P es → Keys Q es
unfolding Keys
keys_map P Q [] f p = tt
keys_map P Q (e ∷ es) f p = (f e.key p.0, keys_map P Q es f p.1)

module _ (P : ℕ → Type 0) where
  pub keys_append : (xs ys : List Entry) → Keys P xs → Keys P ys → Keys P (xs ++ ys)
  unfolding Keys
  keys_append [] ys p q = q
  keys_append (x ∷ xs) ys p q = (p.0, keys_append xs ys p.1 q)

  pub keys_from : (k : ℕ) (es : List Entry) → Keys P es → Keys P (rest_from k es)
  unfolding Keys rest_from
  keys_from k [] p = tt
  keys_from k (e ∷ es) p = from_cases (Keys P) e es k (λ h. keys_from k es p.1) (λ h. p)

  pub keys_after : (k : ℕ) (es : List Entry) → Keys P es → Keys P (rest_after k es)
  unfolding Keys rest_after
  keys_after k [] p = tt
  keys_after k (e ∷ es) p = after_cases (Keys P) e es k (λ h. keys_after k es p.1) (λ h. p)

  -- a listed code's entries are all of its key
  keys_placed : (c : Entry) (status : ℕ) → P c.key → Keys P (placed c status)
  unfolding Keys
  keys_placed c status p = placed_cases (Keys P) c status (λ h. tt) (λ h. (p, tt))

  pub keys_group : (c : Entry) (status : ℕ) (es : List Entry) → P c.key → Keys P (listed_group c status es)
  unfolding Keys listed_group
  keys_group c status [] p = keys_placed c status p
  keys_group c status (e ∷ es) p =
      group_cases (Keys P) e es c status
      (λ q l. (subst P (sym q) p, keys_group c e.offer es p))
      (λ q l. keys_group c status es p)
      (λ n. keys_placed c status p)

  module _ (closes : ℕ → Bool) (day : ℕ) where
    pub keys_unlisted : (e : Entry) (es : List Entry) → P e.key → Keys P (unlisted_one closes day e es)
    unfolding Keys
    keys_unlisted e es p =
        unlisted_cases (Keys P) e es closes day
        (λ c. (p, tt))
        (λ l z. (p, tt))
        (λ l g. (p, tt))
        (λ c l n g. (p, (p, tt)))
        (λ c l. tt)

    pub keys_gap : (k : ℕ) (es : List Entry) → Keys P es → Keys P (gap_below k closes day es)
    unfolding Keys gap_below
    keys_gap k [] p = tt
    keys_gap k (e ∷ es) p =
        gap_cases (Keys P) e es k closes day
        (λ h.
        keys_append (unlisted_one closes day e es) (gap_below k closes day es)
        (keys_unlisted e es p.0)
        (keys_gap k es p.1))
        (λ h. tt)

    -- a gap's keys are below its end
    pub keys_below : (k : ℕ) (es : List Entry) → ((j : ℕ) → j < k → P j) → Keys P (gap_below k closes day es)
    unfolding Keys gap_below
    keys_below k [] f = tt
    keys_below k (e ∷ es) f =
        gap_cases (Keys P) e es k closes day
        (λ h.
        keys_append (unlisted_one closes day e es) (gap_below k closes day es)
        (keys_unlisted e es (f e.key h))
        (keys_below k es f))
        (λ h. tt)

    pub keys_merged : (end : ℕ) (es cs : List Entry) → Keys P es → Keys P cs → Keys P (merged end closes day es cs)
    unfolding Keys merged
    keys_merged end es [] p q = keys_gap end es p
    keys_merged end es (c ∷ cs) p q =
        let from = rest_from c.key es in
        let more = rest_after c.key from in
        subst (Keys P) (sym (in_parts end closes day es cs c))
        (keys_append (gap_below c.key closes day es) (listed_group c 0 from ++ merged end closes day more cs)
        (keys_gap c.key es p)
        (keys_append (listed_group c 0 from) (merged end closes day more cs)
        (keys_group c 0 from q.0)
        (keys_merged end more cs (keys_after c.key from (keys_from c.key es p)) q.1)))
