-- How many entries a new book has. Assumes nothing.
use mathlib.Core.Path.{ap}
use mathlib.Core.Bool.{Bool}
use mathlib.Core.List.{List, [], ◌∷◌, ◌++◌}
use Prim.Native.Nat.{ℕ, ◌+◌, ◌*◌, ◌≤◌}
use native.Mathlib.Omega.{arith}
use lib.ListN.{length, length-append}
use Rattle.book_words.specs.declared.Entry.{Entry}
use Rattle.merge_rule.specs.Passes.{unlisted_one, gap_below, rest_from, placed, listed_group, rest_after, line_entries, line_rest, merged}
use Rattle.merge_rule.proofs.PassCases.{in_parts, unlisted_cases, gap_cases, from_cases, after_cases, placed_cases, group_cases}

module _ (closes : ℕ → Bool) (day : ℕ) where
  one_length : (e : Entry) (es : List Entry) → length (unlisted_one closes day e es) ≤ 2
  one_length e es =
      unlisted_cases (λ (l : List Entry). length l ≤ 2) e es closes day
      (λ c. omega arith)
      (λ l z. omega arith)
      (λ l g. omega arith)
      (λ c l z g. omega arith)
      (λ c l. omega arith)

  pub gap_length : (k : ℕ) (es : List Entry) → length (gap_below k closes day es) + 2 * length (rest_from k es) ≤ 2 * length es
  unfolding gap_below rest_from
  gap_length k [] = omega arith
  gap_length k (e ∷ es) =
      gap_cases (λ (l : List Entry). length l + 2 * length (rest_from k (e ∷ es)) ≤ 2 * length (e ∷ es)) e es k closes day
      (λ h.
      let one = unlisted_one closes day e es in
      let gap = gap_below k closes day es in
      from_cases (λ (l : List Entry). length (one ++ gap) + 2 * length l ≤ 2 * length (e ∷ es)) e es k
      (λ l. omega (arith, length-append one gap, one_length e es, gap_length k es))
      (λ l. absurd (omega arith)))
      (λ h.
      from_cases (λ (l : List Entry). 0 + 2 * length l ≤ 2 * length (e ∷ es)) e es k
      (λ l. absurd (omega arith))
      (λ l. omega arith))

placed_length : (c : Entry) (status : ℕ) → length (placed c status) ≤ 1
placed_length c status = placed_cases (λ (l : List Entry). length l ≤ 1) c status (λ q. omega arith) (λ n. omega arith)

group_length :
    (c : Entry) (status : ℕ) (es : List Entry)
    → length (listed_group c status es) + 2 * length (rest_after c.key es) ≤ 1 + 2 * length es
unfolding listed_group rest_after
group_length c status [] = omega (arith, placed_length c status)
group_length c status (e ∷ es) =
    let group = listed_group c status (e ∷ es) in
    after_cases (λ (m : List Entry). length group + 2 * length m ≤ 1 + 2 * length (e ∷ es)) e es c.key
    (λ q.
    group_cases (λ (l : List Entry). length l + 2 * length (rest_after c.key es) ≤ 1 + 2 * length (e ∷ es)) e es c status
    (λ k l. omega (arith, group_length c e.offer es))
    (λ k l. omega (arith, group_length c status es))
    (λ n. absurd (n q)))
    (λ n.
    group_cases (λ (l : List Entry). length l + 2 * length (e ∷ es) ≤ 1 + 2 * length (e ∷ es)) e es c status
    (λ k l. absurd (n k))
    (λ k l. absurd (n k))
    (λ m. omega (arith, placed_length c status)))

-- A line gives at most one more than its entries.
pub line_length :
    (c : Entry) (closes : ℕ → Bool) (day : ℕ) (es : List Entry)
    → length (line_entries c closes day es) + 2 * length (line_rest c es) ≤ 1 + 2 * length es
unfolding line_entries line_rest
line_length c closes day es =
    let from = rest_from c.key es in
    omega (
      arith,
      length-append (gap_below c.key closes day es) (listed_group c 0 from),
      gap_length closes day c.key es,
      group_length c 0 from,
    )

-- An entry gives at most two, a line at most one.
pub merged_length :
    (end : ℕ) (closes : ℕ → Bool) (day : ℕ) (es cs : List Entry)
    → length (merged end closes day es cs) ≤ 2 * length es + length cs
unfolding merged
merged_length end closes day es [] = omega (arith, gap_length closes day end es)
merged_length end closes day es (c ∷ cs) =
    let from = rest_from c.key es in
    let more = rest_after c.key from in
    let rest = merged end closes day more cs in
    omega (
      arith,
      ap length (in_parts end closes day es cs c),
      length-append (gap_below c.key closes day es) (listed_group c 0 from ++ rest),
      length-append (listed_group c 0 from) rest,
      gap_length closes day c.key es,
      group_length c 0 from,
      merged_length end closes day more cs,
    )
