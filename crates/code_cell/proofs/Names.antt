-- The entries of a cell, each read where the one before ended. Assumes nothing.
-- The entries behind the first: those after its comma.
use mathlib.Core.Path.{◌≡◌, refl, ap, sym, ◌∙◌}
use mathlib.Core.Bool.{Bool, true, false, cond, not}
use mathlib.Core.List.{List, [], ◌∷◌, map}
use Prim.Native.Nat.{ℕ, suc, ◌+◌, ◌-◌, ◌≤◌, ◌<◌}
use native.Mathlib.Omega.{arith}
use lib.Dec.{eqb}
use borrow.Author.Tests.{ne_eqb}
use lib.ListN.{length, take, drop, length-drop, drop_of_length-le}
use lib.Seq.{drop-drop}
use Rattle.code_entry.specs.Entry.{comma, leading, after, entry_of, rest_of, entry_codes, sized, read_entry}
use Rattle.code_entry.specs.declared.CodeRange.{CodeRange}
use Rattle.code_entry.proofs.EntryLaws.{entry_size, rest_drop}
use Rattle.code_cell.specs.Cell.{before, entries_of, entry_names}
use Rattle.refusal.specs.Steps.{ok_at}
use Rattle.refusal.proofs.ReadParts.{apart, same_read}
use Rattle.refusal.specs.declared.Refusal.{Refusal}
use Rattle.std.proofs.Common.{Result, Ok, Err, Option, Some, None, MatchOption, ◌⊎◌, ⊎_elim, slice_range, slice_index, EachIndex, ◌≢◌, ◌++◌, take-append-drop, get_or-drop}
use Rattle.std.specs.Option.{option_map_or}
use Rattle.std.specs.Borrow.{Bor}
use Rattle.std.proofs.lemmas.List.{take_rest, drop_more, map-append}

abbrev pub later : List ℕ → List (List ℕ)
later [] = []
later (b ∷ s) = entries_of s

pub entries_first : (s : List ℕ) → entries_of s ≡ entry_of s ∷ later (rest_of s)
unfolding entries_of entry_of rest_of leading after
entries_first [] = refl
entries_first (b ∷ s) = go (entries_first s) (eqb b comma)
  where
    go : entries_of s ≡ entry_of s ∷ later (rest_of s) → (t : Bool)
        → cond t ([] ∷ entries_of s) (before b (entries_of s)) ≡ cond (not t) (b ∷ entry_of s) [] ∷ later (cond (not t) (rest_of s) (b ∷ s))
    go i true = refl
    go i false = ap (before b) i

-- A cell from a place on has the entry there, and the entries from the place after its comma on.
rest_none : (s : List ℕ) → length (entry_of s) ≡ length s → rest_of s ≡ []
rest_none s e = sym (rest_drop s) ∙ drop_of_length-le s {i = length (entry_of s)} (omega arith)

rest_some : (s : List ℕ) → length (entry_of s) < length s → later (rest_of s) ≡ entries_of (drop (length (entry_of s) + 1) s)
rest_some s h =
    ap later (sym (rest_drop s)) ∙ go (drop (length (entry_of s)) s) refl
  where
    go : (t : List ℕ) → drop (length (entry_of s)) s ≡ t → later (drop (length (entry_of s)) s) ≡ entries_of (drop (length (entry_of s) + 1) s)
    go [] e = absurd (omega (arith, ap length e, length-drop (length (entry_of s)) s))
    go (b ∷ t) e = ap later e ∙ ap entries_of (sym (ap (drop 1) e) ∙ drop-drop 1 (length (entry_of s)) s)

-- What an entry that is read names.
module _ (c s : List ℕ) where
  pub read_codes : (r : CodeRange) (n : ℕ) → read_entry c s ≡ ok_at r n → (entry_codes c (entry_of s) ≡ Ok r) × (length (entry_of s) ≡ n)
  unfolding read_entry
  read_codes r n e = go (entry_codes c (entry_of s)) refl e
    where
      go : (x : Result CodeRange Refusal) → entry_codes c (entry_of s) ≡ x → sized x (length (entry_of s)) ≡ ok_at r n
          → (entry_codes c (entry_of s) ≡ Ok r) × (length (entry_of s) ≡ n)
      go (Ok q) f g = let p = same_read g in (f ∙ ap Ok p.0, p.1)
      go (Err q) f g = absurd (apart (sym g))

  pub read_refused : (q : Refusal) → read_entry c s ≡ Err q → entry_codes c (entry_of s) ≡ Err q
  unfolding read_entry
  read_refused q e = go (entry_codes c (entry_of s)) refl e
    where
      go : (x : Result CodeRange Refusal) → entry_codes c (entry_of s) ≡ x → sized x (length (entry_of s)) ≡ Err q → entry_codes c (entry_of s) ≡ Err q
      go (Ok r) f g = absurd (apart g)
      go (Err p) f g = let h : p ≡ q = cc in f ∙ ap Err h

-- What the entries of a cell name, by the one that is read at its front.
module _ (c s : List ℕ) where
  pub first_refused :
      (q : Refusal) → read_entry c s ≡ Err q → (ns : List (Result CodeRange Refusal)) × (entry_names c s ≡ Err q ∷ ns)
  first_refused q e = (
    map (entry_codes c) (later (rest_of s)),
    ap (map (entry_codes c)) (entries_first s)
        ∙ ap (λ (x : Result CodeRange Refusal). x ∷ map (entry_codes c) (later (rest_of s))) (read_refused c s q e),
  )

  module _ (r : CodeRange) (n : ℕ) (e : read_entry c s ≡ ok_at r n) where
    -- an entry ends in the cell
    pub first_ends : n ≤ length s
    first_ends = omega (arith, (read_codes c s r n e).1, entry_size s)

    pub opened : entry_names c s ≡ Ok r ∷ map (entry_codes c) (later (rest_of s))
    opened =
        ap (map (entry_codes c)) (entries_first s)
        ∙ ap (λ (x : Result CodeRange Refusal). x ∷ map (entry_codes c) (later (rest_of s))) (read_codes c s r n e).0

    pub only_first : length s < n + 1 → entry_names c s ≡ Ok r ∷ []
    only_first f =
        opened
        ∙ ap (λ (t : List ℕ). Ok r ∷ map (entry_codes c) (later t))
        (rest_none s (omega (arith, (read_codes c s r n e).1, first_ends)))

    pub first_then : n + 1 ≤ length s → entry_names c s ≡ Ok r ∷ entry_names c (drop (n + 1) s)
    first_then f =
        let z : length (entry_of s) + 1 ≡ n + 1 = omega (arith, (read_codes c s r n e).1) in
        opened
        ∙ ap (λ (es : List (List ℕ)). Ok r ∷ map (entry_codes c) es)
        (rest_some s (omega (arith, (read_codes c s r n e).1)) ∙ ap (λ (i : ℕ). entries_of (drop i s)) z)

    -- The entries behind it, by the part of the cell there.
    pub first_left :
        (o : Option (Bor (List ℕ))) (t : List ℕ)
        → t ≡ take (length s - n) (drop n s)
        → MatchOption o ((length t < 1) ⊎ (length t < length t))
        (λ x. (1 ≤ length t) × (length t ≤ length t) × (x.now ≡ slice_range t 1 (length t)) × (length x.now + 1 ≡ length t))
        → entry_names c s ≡ Ok r ∷ option_map_or (λ (u : Bor (List ℕ)). entry_names c u.now) o []
    first_left o t q h = go o h
      where
        d : t ≡ drop n s
        d = q ∙ take_rest s n

        l : length t + n ≡ length s
        l = omega (arith, ap length d, length-drop n s, first_ends)

        go : (o : Option (Bor (List ℕ)))
            → MatchOption o ((length t < 1) ⊎ (length t < length t))
            (λ x. (1 ≤ length t) × (length t ≤ length t) × (x.now ≡ slice_range t 1 (length t)) × (length x.now + 1 ≡ length t))
            → entry_names c s ≡ Ok r ∷ option_map_or (λ (u : Bor (List ℕ)). entry_names c u.now) o []
        go None h = only_first (⊎_elim (λ b. omega (arith, l)) (λ b. absurd (omega arith)) h)
        go (Some x) h =
            let f : x.now ≡ drop (n + 1) s = h.2 ∙ take_rest t 1 ∙ ap (drop 1) d ∙ drop-drop 1 n s in
            first_then (omega (arith, l, h.0)) ∙ ap (λ (u : List ℕ). Ok r ∷ entry_names c u) (sym f)

-- A list with one item more is longer.
pub longer : {X : Type 0} (x : X) {xs ys : List X} → ys ≡ x ∷ xs → length xs < length ys
longer x e = omega (arith, ap length e)

-- A cell by its last comma, if it has one.
pub no_commas : (s : List ℕ) → EachIndex s (λ k. slice_index s k ≢ comma) → (entries_of s ≡ s ∷ []) × (entry_of s ≡ s)
unfolding entries_of entry_of leading
no_commas [] h = (refl, refl)
no_commas (b ∷ s) h =
    let n : eqb b comma ≡ false = ne_eqb b comma (h 0 (omega arith)) in
    let p = no_commas s (λ k l. h (suc k) (omega arith)) in
    (rw (n, p.0), rw (n, p.1))

before_last : (b : ℕ) (u t : List ℕ) → before b (entries_of u ++ (t ∷ [])) ≡ before b (entries_of u) ++ (t ∷ [])
before_last b u t = rw (entries_first u)

entries_last : (u t : List ℕ) → entries_of t ≡ t ∷ [] → entries_of (u ++ (comma ∷ t)) ≡ entries_of u ++ (t ∷ [])
unfolding entries_of
entries_last [] t e = ap (λ (es : List (List ℕ)). [] ∷ es) e
entries_last (b ∷ u) t e = go (entries_last u t e) (eqb b comma)
  where
    go : entries_of (u ++ (comma ∷ t)) ≡ entries_of u ++ (t ∷ []) → (x : Bool)
        → cond x ([] ∷ entries_of (u ++ (comma ∷ t))) (before b (entries_of (u ++ (comma ∷ t))))
        ≡ cond x ([] ∷ entries_of u) (before b (entries_of u)) ++ (t ∷ [])
    go i true = ap (λ (es : List (List ℕ)). [] ∷ es) i
    go i false = ap (before b) i ∙ before_last b u t

module _ (s : List ℕ) (at : ℕ) (l : at < length s) (e : slice_index s at ≡ comma)
    (n : (k : ℕ) → at < k → k < length s → slice_index s k ≢ comma) where
  split_at : s ≡ take at s ++ (comma ∷ drop (at + 1) s)
  split_at =
      sym (take-append-drop at s)
      ∙ ap (λ (t : List ℕ). take at s ++ t) (drop_more s at 0 l ∙ ap (λ (b : ℕ). b ∷ drop (at + 1) s) e)

  alone : (entries_of (drop (at + 1) s) ≡ drop (at + 1) s ∷ []) × (entry_of (drop (at + 1) s) ≡ drop (at + 1) s)
  alone =
      no_commas (drop (at + 1) s)
      (λ k h q. n (at + 1 + k) (omega arith) (omega (arith, length-drop (at + 1) s)) (sym (get_or-drop (at + 1) s k 0) ∙ q))

  pub last_comma :
      (t : List ℕ) → t ≡ take (length s - (at + 1)) (drop (at + 1) s)
      → (entries_of s ≡ entries_of (take at s) ++ (t ∷ [])) × (entry_of t ≡ t)
  last_comma t q =
      rw (q ∙ take_rest s (at + 1)) (ap entries_of split_at ∙ entries_last (take at s) (drop (at + 1) s) alone.0, alone.1)

-- What the entries of a cell name, by its last entry and the part before its comma.
pub last_left :
    (c s t : List ℕ) (o : Option (Bor (List ℕ)))
    → entries_of s ≡ option_map_or (λ (u : Bor (List ℕ)). entries_of u.now) o [] ++ (t ∷ [])
    → entry_of t ≡ t
    → (x : Result CodeRange Refusal) → entry_codes c (entry_of t) ≡ x
    → entry_names c s ≡ option_map_or (λ (u : Bor (List ℕ)). entry_names c u.now) o [] ++ (x ∷ [])
last_left c s t None e q x f = ap (map (entry_codes c)) e ∙ ap (λ y. y ∷ []) (ap (entry_codes c) (sym q) ∙ f)
last_left c s t (Some u) e q x f =
    ap (map (entry_codes c)) e ∙ map-append (entry_codes c) (entries_of u.now) (t ∷ []) ∙ ap (λ y. entry_names c u.now ++ (y ∷ [])) (ap (entry_codes c) (sym q) ∙ f)
