-- The bound of a first look: where it is in the room, the distinct codes are. Assumes nothing.
-- Each key makes a list one longer at most.
use mathlib.Core.Path.{◌≡◌, refl, ap, sym, ◌∙◌}
use mathlib.Core.Bool.{Bool, true, false, false≢true, cond}
use mathlib.Core.List.{List, [], ◌∷◌}
use Prim.Native.Nat.{ℕ, suc, ◌+◌, ◌≤◌}
use native.Mathlib.Omega.{arith}
use borrow.Author.Tests.{le-ltb, eq-eqb, eqb-true, ne_eqb}
use lib.Dec.{eqb, ltb}
use lib.ListN.{length}
use Rattle.dial_code.proofs.Tests.{both, below, equal, above, order}
use Rattle.code_entry.specs.Range.{range_keys}
use Rattle.code_entry.specs.declared.CodeRange.{CodeRange}
use Rattle.code_cell.specs.Cell.{insert, insert_all}
use Rattle.code_cell.specs.Count.{all_keys, same_range, is_named, added, bound_of}
use Rattle.code_cell.specs.Rising.{Rising, holds}
use Rattle.code_cell.proofs.Inserts.{insert_same, insert_more, all_rising, above_less}
use Rattle.code_cell.proofs.Members.{holds_all, above_out, or_true, insert_length}
use Rattle.code_cell.proofs.RangeKeys.{range_keys_law, length_keys}
use Rattle.std.proofs.Common.{Option, Some, None}

all_most : (ks l : List ℕ) → Rising l → length (insert_all ks l) ≤ length ks + length l
unfolding insert_all
all_most [] l r = omega arith
all_most (k ∷ ks) l r =
    let m = insert_all ks l in
    omega (arith, one (length m) (length (insert k m)) (holds k m) (insert_length k m (all_rising ks l r)), all_most ks l r)
  where
    one : (n x : ℕ) (b : Bool) → x ≡ cond b n (suc n) → x ≤ suc n
    one n x true e = omega arith
    one n x false e = omega arith

-- Keys that are all there change nothing.
abbrev Held : List ℕ → List ℕ → Type 0
Held [] l = Unit
Held (k ∷ ks) l = (holds k l ≡ true) × Held ks l

insert_held : (k : ℕ) (l : List ℕ) → Rising l → holds k l ≡ true → insert k l ≡ l
insert_held k [] r h = absurd (false≢true h)
insert_held k (x ∷ xs) r h =
    elim (order k x) [
      | below o ↦ absurd (false≢true (sym (above_out k (x ∷ xs) (o, above_less k x xs o r.0)) ∙ h))
      | equal o ↦ insert_same k x xs o
      | above o ↦
          let v : holds k xs ≡ true = rw (ne_eqb k x (λ (e : k ≡ x). omega arith)) at h in
          insert_more k x xs o ∙ ap (λ (s : List ℕ). x ∷ s) (insert_held k xs r.1 v)
    ]

all_held : (ks l : List ℕ) → Rising l → Held ks l → insert_all ks l ≡ l
unfolding insert_all
all_held [] l r h = refl
all_held (k ∷ ks) l r h = ap (insert k) (all_held ks l r h.1) ∙ insert_held k l r h.0

held_more : (js ks : List ℕ) (x : ℕ) → Held js ks → Held js (x ∷ ks)
held_more [] ks x h = tt
held_more (j ∷ js) ks x h = (rw h.0 (or_true (eqb j x)), held_more js ks x h.1)

held_self : (ks : List ℕ) → Held ks ks
held_self [] = tt
held_self (k ∷ ks) = (rw (eq-eqb k k refl), held_more ks ks k (held_self ks))

held_after : (js ks l : List ℕ) → Held js ks → Held js (insert_all ks l)
held_after [] ks l h = tt
held_after (j ∷ js) ks l h = (holds_all j ks l ∙ rw h.0, held_after js ks l h.1)

-- The same keys again.
pub again : (ks l : List ℕ) → Rising l → insert_all ks (insert_all ks l) ≡ insert_all ks l
again ks l r = all_held ks (insert_all ks l) (all_rising ks l r) (held_after ks ks l (held_self ks))

same_so : (p r : CodeRange) → same_range p r ≡ true → p ≡ r
unfolding same_range
same_so p r e =
    let a = both (eqb p.digits r.digits) _ e in
    let b = both (eqb p.first r.first) _ a.1 in
    let d : p.digits ≡ r.digits = eqb-true _ _ a.0 in
    let f : p.first ≡ r.first = eqb-true _ _ b.0 in
    let n : p.count ≡ r.count = eqb-true _ _ b.1 in
    λ i. record { digits = d i; first = f i; count = n i }

-- The keys of the range before, if there is one, are there.
abbrev Named : Option CodeRange → List ℕ → Type 0
Named None l = Unit
Named (Some p) l = insert_all (range_keys p) l ≡ l

named_so : (p : Option CodeRange) (r : CodeRange) (l : List ℕ) → Named p l → is_named p r ≡ true → insert_all (range_keys r) l ≡ l
named_so None r l h e = absurd (false≢true e)
named_so (Some p) r l h e = ap (λ (x : CodeRange). insert_all (range_keys x) l) (sym (same_so p r e)) ∙ h

-- The bound only grows.
added_more : (room b : ℕ) (p : Option CodeRange) (r : CodeRange) → b ≤ added room b p r
unfolding added
added_more room b p r = go (ltb room b) (is_named p r)
  where
    go : (s t : Bool) → b ≤ cond s b (cond t b (b + r.count))
    go true t = omega arith
    go false true = omega arith
    go false false = omega arith

bound_more : (room b : ℕ) (p : Option CodeRange) (rs : List CodeRange) → b ≤ bound_of room b p rs
unfolding bound_of
bound_more room b p [] = omega arith
bound_more room b p (r ∷ rs) = omega (arith, added_more room b p r, bound_more room (added room b p r) (Some r) rs)

-- In the room, the bound grows by what is new.
added_enough :
    (room b : ℕ) (p : Option CodeRange) (r : CodeRange) (l : List ℕ) → Rising l
    → length l ≤ b
    → Named p l
    → b ≤ room
    → length (insert_all (range_keys r) l) ≤ added room b p r
unfolding added
added_enough room b p r l s h e m = rw (le-ltb room b m) (go (is_named p r) refl)
  where
    go : (t : Bool) → is_named p r ≡ t → length (insert_all (range_keys r) l) ≤ cond t b (b + r.count)
    go true q = omega (arith, ap length (named_so p r l e q))
    go false q =
        omega (arith, all_most (range_keys r) l s, ap length (range_keys_law r), length_keys r.digits r.first r.count)

pub bound_enough :
    (room b : ℕ) (p : Option CodeRange) (rs : List CodeRange) (l : List ℕ) → Rising l
    → length l ≤ b
    → Named p l
    → bound_of room b p rs ≤ room
    → length (all_keys l rs) ≤ room
unfolding bound_of all_keys
bound_enough room b p [] l s h e m = omega arith
bound_enough room b p (r ∷ rs) l s h e m =
    bound_enough room (added room b p r) (Some r) rs (insert_all (range_keys r) l)
    (all_rising (range_keys r) l s)
    (added_enough room b p r l s h e (omega (arith, added_more room b p r, bound_more room (added room b p r) (Some r) rs)))
    (again (range_keys r) l s)
    m
