-- A range's keys and the rising keys at the front of a slice, taken together from their ends. Assumes nothing.
-- The keys of the first q codes of a run, and the first p words of a slice, together.
use mathlib.Core.Path.{◌≡◌, ap, sym, subst, ◌∙◌}
use mathlib.Core.List.{List, [], ◌∷◌, ◌++◌}
use Prim.Native.Nat.{ℕ, zero, suc, ◌+◌, ◌-◌, ◌≤◌, ◌<◌}
use native.Mathlib.Omega.{arith}
use borrow.Author.Tests.{eq-eqb, ne_eqb}
use lib.Dec.{eqb}
use Rattle.std.specs.Int.{from_bool}
use lib.ListN.{length, get_or, take, set, take-append-drop}
use lib.Seq.{sets, sets-eq, set_comm, take-suc, length-take-le}
use Rattle.dial_code.proofs.Tests.{below, equal, above, order}
use Rattle.code_cell.specs.Cell.{insert_all}
use Rattle.code_cell.specs.Rising.{Below, Rising}
use Rattle.code_cell.proofs.Inserts.{all_before, all_longer, all_none, all_into_none, last_new, last_both, below_more, below_append, rising_last}
use Rattle.code_entry.specs.Range.{keys_from}
use Rattle.code_cell.proofs.RangeKeys.{last_key_law, no_keys, keys_below, keys_rising}
use Rattle.cell_keys.specs.Writing.{key_at, Run}

abbrev pub together : ℕ → ℕ → ℕ → ℕ → List ℕ → List ℕ
together d f q p l = insert_all (keys_from d f q) (take p l)

-- 1 for two numbers that are the same, else 0
abbrev pub same : ℕ → ℕ → ℕ
same x k = from_bool (eqb x k)

pub same_so : (x k : ℕ) → x ≡ k → same x k ≡ 1
same_so x k e = rw (eq-eqb x k e)

pub same_not : (x k : ℕ) → (x ≡ k → ⊥) → same x k ≡ 0
same_not x k n = rw (ne_eqb x k n)

module _ (d f q : ℕ) (r : Run d f q) where
  keys_split : keys_from d f q ≡ keys_from d f (q - 1) ++ (key_at d (f + (q - 1)) ∷ [])
  keys_split =
      let g : suc (q - 1) ≡ q = omega (arith, r.2) in
      rw g at (last_key_law d f (q - 1))

  last_below : Below (keys_from d f (q - 1)) (key_at d (f + (q - 1)))
  last_below = keys_below d f (q - 1) r.0 r.1 (omega (arith, r.2, r.3))

  all_below : (x : ℕ) → key_at d (f + (q - 1)) < x → Below (keys_from d f q) x
  all_below x h =
      subst (λ (s : List ℕ). Below s x) (sym keys_split)
      (below_append (keys_from d f (q - 1)) _ x (below_more (keys_from d f (q - 1)) _ x h last_below) h)

  module _ (p x : ℕ) (l : List ℕ) (h : 0 < p) (m : p ≤ length l) (e : x ≡ get_or l (p - 1) 0) (s : Rising (take p l)) where
    pub take_split : take p l ≡ take (p - 1) l ++ (x ∷ [])
    take_split =
        let g : suc (p - 1) ≡ p = omega arith in
        rw (g, sym e) at (take-suc l (p - 1) 0 (omega arith))

    pub ends_so : Below (take (p - 1) l) x × Rising (take (p - 1) l)
    ends_so = rising_last (take (p - 1) l) x (subst Rising take_split s)

    -- The slice's key is the last, and what is left of it rises.
    pub old_last :
        key_at d (f + (q - 1)) < x
        → (together d f q p l ≡ together d f q (p - 1) l ++ (x ∷ [])) × Rising (take (p - 1) l)
    old_last o = (
      ap (insert_all (keys_from d f q)) take_split ∙ all_before (keys_from d f q) x (take (p - 1) l) (all_below x o),
      ends_so.1,
    )

    -- The range's key is the last, and maybe the slice's too.
    pub new_last :
        (k t : ℕ) → k ≡ key_at d (f + (q - 1))
        → t ≡ same x k
        → x ≤ k
        → (together d f q p l ≡ together d f (q - 1) (p - t) l ++ (k ∷ [])) × Rising (take (p - t) l)
    new_last k t g u o =
        elim (order x k) [
          | below c ↦
              let v : same x k ≡ 0 = same_not x k (λ (y : x ≡ k). omega arith) in
              let z : p - t ≡ p = omega (arith, u, v) in
              let b : Below (take p l) (key_at d (f + (q - 1))) =
              subst (λ (s : List ℕ). Below s (key_at d (f + (q - 1)))) (sym take_split)
              (below_append (take (p - 1) l) x _ (below_more (take (p - 1) l) x _ (omega (arith, g)) ends_so.0) (omega (arith, g))) in
              rw (z, g)
              ((
                ap (λ (ks : List ℕ). insert_all ks (take p l)) keys_split
                    ∙ last_new (keys_from d f (q - 1)) (take p l) _ last_below b,
                s,
              ))
          | equal c ↦
              let v : same x k ≡ 1 = same_so x k c in
              let z : p - t ≡ p - 1 = omega (arith, u, v) in
              let b : Below (take (p - 1) l) (key_at d (f + (q - 1))) = rw (c ∙ g) at ends_so.0 in
              rw (z, g)
              ((
                ap (λ (ks : List ℕ). insert_all ks (take p l)) keys_split
                    ∙ ap (insert_all (keys_from d f (q - 1) ++ (key_at d (f + (q - 1)) ∷ []))) (rw (c ∙ g) at take_split)
                    ∙ last_both (keys_from d f (q - 1)) (take (p - 1) l) _ last_below b,
                ends_so.1,
              ))
          | above c ↦ absurd (omega arith)
        ]

-- No key of the slice is left, or none of the range.
pub only_new : (d f q : ℕ) (l : List ℕ) → Run d f q → together d f q 0 l ≡ keys_from d f q
only_new d f q l r = all_into_none (keys_from d f q) (keys_rising d f q r.0 r.1 r.3)

pub only_old : (d f q p : ℕ) (l : List ℕ) → q ≡ 0 → together d f q p l ≡ take p l
only_old d f zero p l e = ap (λ (ks : List ℕ). insert_all ks (take p l)) (no_keys d f) ∙ all_none (take p l)
only_old d f (suc q) p l e = absurd (omega arith)

pub longer : (d f q p : ℕ) (l : List ℕ) → p ≤ length l → p ≤ length (together d f q p l)
longer d f q p l h = omega (arith, all_longer (keys_from d f q) (take p l), length-take-le p l h)

-- A last word stored first.
pub sets_last : (l : List ℕ) (i : ℕ) (u : List ℕ) (x : ℕ) → sets l i (u ++ (x ∷ [])) ≡ sets (set l (i + length u) x) i u
sets_last l i [] x = ap (λ (j : ℕ). set l j x) (omega arith)
sets_last l i (y ∷ u) x =
    sets_last (set l i y) (suc i) u x
    ∙ ap (λ (s : List ℕ). sets s (suc i) u)
    (ap (λ (j : ℕ). set (set l i y) j x) (omega arith)
    ∙ set_comm l i (i + suc (length u)) y x (λ (e : i ≡ i + suc (length u)). omega arith))

-- A slice's own words stored where they stand.
pub sets_own : (l : List ℕ) (p : ℕ) → p ≤ length l → sets l 0 (take p l) ≡ l
sets_own l p h =
    let n : length (take p l) ≡ p = length-take-le p l h in
    let z : 0 + length (take p l) ≡ p = omega (arith, n) in
    sets-eq (take p l) l 0 (omega (arith, n)) ∙ rw z (take-append-drop p l)
