-- A cell read entry by entry names what the whole cell names, with its refusals. Assumes nothing.
use mathlib.Core.Path.{◌≡◌, refl, ap, sym, subst, ◌∙◌}
use mathlib.Core.Bool.{Bool, true, false, false≢true, cond, ◌||◌}
use mathlib.Core.List.{List, [], ◌∷◌, map}
use Prim.Native.Nat.{ℕ, zero, suc, ◌≤◌, ◌<◌}
use native.Mathlib.Omega.{arith}
use borrow.Author.Tests.{lt-ltb, le-ltb, eq-eqb, ne_eqb}
use lib.Dec.{eqb, ltb}
use lib.ListN.{length, length-drop}
use Rattle.dial_code.proofs.Tests.{below, equal, above, order}
use Rattle.code_entry.specs.Range.{range_keys}
use Rattle.code_entry.specs.Entry.{entry_of, rest_of, entry_codes}
use Rattle.code_entry.specs.declared.CodeRange.{CodeRange}
use Rattle.code_entry.proofs.EntryLaws.{writable, rest_drop}
use Rattle.code_cell.specs.Cell.{entries_of, insert_all, keys_named, is_own, cell_keys, entry_keys}
use Rattle.code_cell.specs.Rising.{Above, Rising, holds}
use Rattle.code_cell.proofs.Inserts.{above_less, all_rising, all_into_none}
use Rattle.code_cell.proofs.Members.{holds_all, above_out, or_true}
use Rattle.code_cell.proofs.RangeKeys.{range_keys_law, keys_rising}
use Rattle.code_cell.proofs.Names.{later, entries_first}
use Rattle.code_cell.proofs.Refusals.{plain_cell}
use Rattle.cell_laws.specs.Entries.{joined, behind, entries_into, by_entries}
use Rattle.refusal.specs.declared.Refusal.TheVariants.{KeysTooMany}
use Rattle.refusal.specs.Steps.{◌>>=◌}
use Rattle.refusal.specs.declared.Refusal.{Refusal}
use Rattle.std.proofs.Common.{Result, Ok, Err}

-- A key behind the first is in the list; one in the list that is not the first is behind it; a list above a key does not hold it.
held_later : (j x : ℕ) (l : List ℕ) → holds j l ≡ true → holds j (x ∷ l) ≡ true
held_later j x l e = ap (λ (b : Bool). eqb j x || b) e ∙ or_true (eqb j x)

not_first : (j x : ℕ) (l : List ℕ) → (j ≡ x → ⊥) → holds j (x ∷ l) ≡ true → holds j l ≡ true
not_first j x l n e = rw (ne_eqb j x n) at e

not_held : (j x : ℕ) (l : List ℕ) → Above x l → holds j l ≡ true → j ≡ x → ⊥
not_held j x l a e q = false≢true (sym (above_out x l a) ∙ ap (λ (y : ℕ). holds y l) (sym q) ∙ e)

-- Rising keys are no more than the rising keys that hold them all.
held_few :
    (ks l : List ℕ) → Rising ks → Rising l
    → ((j : ℕ) → holds j ks ≡ true → holds j l ≡ true)
    → length ks ≤ length l
held_few [] l r q h = omega arith
held_few (k ∷ ks) [] r q h = absurd (false≢true (h k (rw (eq-eqb k k refl))))
held_few (k ∷ ks) (x ∷ l) r q h =
    elim (order k x) [
      | below o ↦ absurd (not_held k k (x ∷ l) (o, above_less k x l o q.0) (h k (rw (eq-eqb k k refl))) refl)
      | equal o ↦
          let i : length ks ≤ length l =
          held_few ks l r.1 q.1 (λ (j : ℕ) e.
          not_first j x l (λ p. not_held j k ks r.0 e (p ∙ sym o)) (h j (held_later j k ks e))) in
          omega arith
      | above o ↦
          let i : length (k ∷ ks) ≤ length l =
          held_few (k ∷ ks) l r q.1 (λ (j : ℕ) e.
          not_first j x l (not_held j x (k ∷ ks) (o, above_less x k ks o r.0) e) (h j e)) in
          omega arith
    ]

-- Keys that join others are no more than all.
joined_few : (ks l : List ℕ) → Rising ks → Rising l → length ks ≤ length (insert_all ks l)
joined_few ks l r q =
    held_few ks (insert_all ks l) r (all_rising ks l q) (λ (j : ℕ) e. holds_all j ks l ∙ ap (λ (b : Bool). b || holds j l) e)

-- What an entry names rises.
codes_rise : (c e : List ℕ) (r : CodeRange) → entry_codes c e ≡ Ok r → Rising (range_keys r)
codes_rise c e r q =
    let w = writable c e r q in
    subst Rising (sym (range_keys_law r)) (keys_rising r.digits r.first r.count w.some w.few w.within)

module _ (room : ℕ) where
  -- One entry by itself, then into the keys so far: 52 of its keys alone is 52 of all.
  entry_joins :
      (l : List ℕ) (r : CodeRange) → Rising l → Rising (range_keys r)
      → joined room l (keys_named room [] (Ok r ∷ []))
      ≡ cond (ltb room (length (insert_all (range_keys r) l))) (Err KeysTooMany) (Ok (insert_all (range_keys r) l))
  unfolding joined keys_named
  entry_joins l r q w =
      let ks = range_keys r in
      let m = insert_all ks l in
      let few : length ks ≤ length m = joined_few ks l w q in
      ap (λ (x : List ℕ). joined room l (cond (ltb room (length x)) (Err KeysTooMany) (Ok x))) (all_into_none ks w)
      ∙ elim (order room (length ks)) [
        | below o ↦ rw (lt-ltb room (length ks) o, lt-ltb room (length m) (omega arith))
        | equal o ↦ rw (le-ltb room (length ks) (omega arith))
        | above o ↦ rw (le-ltb room (length ks) (omega arith))
      ]

  goes_on :
      (t : Bool) (m : List ℕ) (f : List ℕ → Result (List ℕ) Refusal) (x : Result (List ℕ) Refusal) → f m ≡ x
      → (cond t (Err KeysTooMany) (Ok m) >>= f) ≡ cond t (Err KeysTooMany) x
  goes_on true m f x e = refl
  goes_on false m f x e = e

  first_entry :
      (l : List ℕ) (f : List ℕ → Result (List ℕ) Refusal) (n : Result CodeRange Refusal) (ns : List (Result CodeRange Refusal)) → Rising l
      → ((r : CodeRange) → n ≡ Ok r → Rising (range_keys r))
      → ((m : List ℕ) → Rising m → f m ≡ keys_named room m ns)
      → (joined room l (keys_named room [] (n ∷ [])) >>= f) ≡ keys_named room l (n ∷ ns)
  unfolding joined keys_named
  first_entry l f (Err e) ns q w g = refl
  first_entry l f (Ok r) ns q w g =
      let m = insert_all (range_keys r) l in
      ap (λ (x : Result (List ℕ) Refusal). x >>= f) (entry_joins l r q (w r refl))
      ∙ goes_on (ltb room (length m)) m f (keys_named room m ns) (g m (all_rising (range_keys r) l q))

  -- The part behind an entry, by what is shown of shorter parts.
  module _ (c : List ℕ) where
    abbrev names : List ℕ → List (Result CodeRange Refusal)
    names s = map (entry_codes c) (entries_of s)

    part_behind :
        (n : ℕ) (m t : List ℕ)
        → length t ≤ n
        → ((s : List ℕ) → length s < n → entries_into n c room m s ≡ keys_named room m (names s))
        → behind t (Ok m) (entries_into n c room m) ≡ keys_named room m (map (entry_codes c) (later t))
    unfolding keys_named
    part_behind n m [] h i = refl
    part_behind n m (b ∷ t) h i = i t (omega arith)

    rest_few : (s : List ℕ) → length (rest_of s) ≤ length s
    rest_few s = omega (arith, ap length (rest_drop s), length-drop (length (entry_of s)) s)

    into_keys :
        (n : ℕ) (l s : List ℕ) → length s < n → Rising l
        → entries_into n c room l s ≡ keys_named room l (names s)
    unfolding entries_into entry_keys
    into_keys zero l s h r = absurd (omega arith)
    into_keys (suc n) l s h r =
        first_entry l (λ (m : List ℕ). behind (rest_of s) (Ok m) (entries_into n c room m)) (entry_codes c (entry_of s))
        (map (entry_codes c) (later (rest_of s))) r (codes_rise c (entry_of s))
        (λ m w. part_behind n m (rest_of s) (omega (arith, rest_few s)) (λ t g. into_keys n m t g w))
        ∙ ap (λ (es : List (List ℕ)). keys_named room l (map (entry_codes c) es)) (sym (entries_first s))

-- A cell that is not the country's own code, entry by entry from comma to comma.
pub entry_by_entry : (c s : List ℕ) (room : ℕ) → is_own c s ≡ false → cell_keys c s room ≡ by_entries c room s
unfolding by_entries
entry_by_entry c s room o = plain_cell c s room o ∙ sym (into_keys room c (suc (length s)) [] s (omega arith) tt)
