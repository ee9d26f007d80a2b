-- Which keys a rising list holds: what joins it, how long it gets, and how many it holds from a number on. Assumes nothing.
-- an alternative, one side known
use mathlib.Core.Path.{◌≡◌, refl, ap, sym, ◌∙◌}
use mathlib.Core.Bool.{Bool, true, false, false≢true, cond, ◌||◌}
use mathlib.Core.List.{List, [], ◌∷◌}
use Prim.Native.Nat.{ℕ, zero, suc, ◌+◌, ◌≤◌, ◌<◌}
use native.Mathlib.Omega.{arith}
use borrow.Author.Tests.{eq-eqb, ne_eqb, le-leb, lt-leb}
use lib.Dec.{eqb, leb}
use lib.ListN.{length}
use Rattle.dial_code.proofs.Tests.{below, equal, above, order}
use Rattle.code_cell.specs.Cell.{insert, insert_all}
use Rattle.code_cell.specs.Rising.{holds, Above, Rising}
use Rattle.code_cell.proofs.Inserts.{above_less, insert_less, insert_same, insert_more, insert_none}

pub or_false : (a : Bool) → (a || false) ≡ a
or_false true = refl
or_false false = refl

pub or_true : (a : Bool) → (a || true) ≡ true
or_true true = refl
or_true false = refl

pub or_assoc : (a b c : Bool) → ((a || b) || c) ≡ (a || (b || c))
or_assoc true b c = refl
or_assoc false b c = refl

or_again : (a c : Bool) → (a || (a || c)) ≡ (a || c)
or_again true c = refl
or_again false c = refl

or_swap : (a b c : Bool) → (a || (b || c)) ≡ (b || (a || c))
or_swap true true c = refl
or_swap true false c = refl
or_swap false true c = refl
or_swap false false c = refl

pub or_right : (s t : Bool) → (s || t) ≡ false → t ≡ false
or_right true t e = absurd (false≢true (sym e))
or_right false t e = e

-- What joins a list is in it, and nothing else.
pub holds_insert : (j k : ℕ) (l : List ℕ) → holds j (insert k l) ≡ (eqb j k || holds j l)
holds_insert j k [] = ap (holds j) (insert_none k)
holds_insert j k (x ∷ xs) =
    elim (order k x) [
      | below o ↦ ap (holds j) (insert_less k x xs o)
      | equal o ↦
          ap (holds j) (insert_same k x xs o)
          ∙ sym (or_again (eqb j x) (holds j xs))
          ∙ ap (λ (y : ℕ). eqb j y || (eqb j x || holds j xs)) (sym o)
      | above o ↦
          ap (holds j) (insert_more k x xs o)
          ∙ ap (λ (b : Bool). eqb j x || b) (holds_insert j k xs)
          ∙ or_swap (eqb j x) (eqb j k) (holds j xs)
    ]

pub holds_all : (j : ℕ) (ks l : List ℕ) → holds j (insert_all ks l) ≡ (holds j ks || holds j l)
unfolding insert_all
holds_all j [] l = refl
holds_all j (k ∷ ks) l =
    holds_insert j k (insert_all ks l)
    ∙ ap (λ (b : Bool). eqb j k || b) (holds_all j ks l)
    ∙ sym (or_assoc (eqb j k) (holds j ks) (holds j l))

-- A number below all is not in the list.
pub above_out : (j : ℕ) (l : List ℕ) → Above j l → holds j l ≡ false
above_out j [] a = refl
above_out j (x ∷ xs) a = rw (ne_eqb j x (λ (e : j ≡ x). omega (arith, a.0)), above_out j xs a.1)

-- A rising list gets one longer, unless the number is there.
pub insert_length : (k : ℕ) (l : List ℕ) → Rising l → length (insert k l) ≡ cond (holds k l) (length l) (suc (length l))
insert_length k [] r = ap length (insert_none k)
insert_length k (x ∷ xs) r =
    elim (order k x) [
      | below o ↦
          let f : holds k (x ∷ xs) ≡ false = above_out k (x ∷ xs) (o, above_less k x xs o r.0) in
          ap length (insert_less k x xs o) ∙ rw f
      | equal o ↦ ap length (insert_same k x xs o) ∙ rw (eq-eqb k x o)
      | above o ↦
          ap length (insert_more k x xs o)
          ∙ ap suc (insert_length k xs r.1)
          ∙ rw (ne_eqb k x (λ (e : k ≡ x). omega arith)) (later (holds k xs))
    ]
  where
    later : (b : Bool) → suc (cond b (length xs) (suc (length xs))) ≡ cond b (suc (length xs)) (suc (suc (length xs)))
    later true = refl
    later false = refl

-- How many numbers of a list are not below one.
abbrev pub from : ℕ → List ℕ → ℕ
from a [] = 0
from a (x ∷ xs) = cond (leb a x) (suc (from a xs)) (from a xs)

pub from_all : (l : List ℕ) → from 0 l ≡ length l
from_all [] = refl
from_all (x ∷ xs) = rw (le-leb 0 x (omega arith)) (ap suc (from_all xs))

-- No number of a list is in a gap, or none from a number on.
pub from_gap :
    (a b : ℕ) (l : List ℕ) → a ≤ b
    → ((x : ℕ) → a ≤ x → x < b → holds x l ≡ false)
    → from a l ≡ from b l
from_gap a b [] h g = refl
from_gap a b (y ∷ ys) h g =
    let t : from a ys ≡ from b ys = from_gap a b ys h (λ (x : ℕ) p q. or_right (eqb x y) (holds x ys) (g x p q)) in
    let inside : a ≤ y → y < b → ⊥ = λ p q. false≢true (sym (g y p q) ∙ rw (eq-eqb y y refl)) in
    elim (order y b) [
      | below o ↦ elim (order y a) [
        | below u ↦ rw (lt-leb a y u, lt-leb b y o) t
        | equal u ↦ absurd (inside (omega arith) o)
        | above u ↦ absurd (inside (omega arith) o)
      ]
      | equal o ↦ rw (le-leb a y (omega arith), le-leb b y (omega arith)) (ap suc t)
      | above o ↦ rw (le-leb a y (omega arith), le-leb b y (omega arith)) (ap suc t)
    ]

from_above : (a : ℕ) (l : List ℕ) → Above a l → from a l ≡ from (a + 1) l
from_above a [] h = refl
from_above a (x ∷ xs) h =
    rw (le-leb a x (omega (arith, h.0)), le-leb (a + 1) x (omega (arith, h.0))) (ap suc (from_above a xs h.1))

-- A number that is in a rising list is one more.
pub from_one : (a : ℕ) (l : List ℕ) → Rising l → holds a l ≡ true → from a l ≡ suc (from (a + 1) l)
from_one a [] r h = absurd (false≢true h)
from_one a (x ∷ xs) r h =
    elim (order a x) [
      | below o ↦
          absurd (false≢true (sym (above_out a (x ∷ xs) (o, above_less a x xs o r.0)) ∙ h))
      | equal o ↦
          let u : Above a xs = rw (sym o) at r.0 in
          rw (le-leb a x (omega arith), lt-leb (a + 1) x (omega arith)) (ap suc (from_above a xs u))
      | above o ↦
          let v : holds a xs ≡ true = rw (ne_eqb a x (λ (e : a ≡ x). omega arith)) at h in
          rw (lt-leb a x o, lt-leb (a + 1) x (omega arith)) (from_one a xs r.1 v)
    ]

-- All numbers of a stretch.
pub from_stretch :
    (n a : ℕ) (l : List ℕ) → Rising l
    → ((x : ℕ) → a ≤ x → x < a + n → holds x l ≡ true)
    → from a l ≡ n + from (a + n) l
from_stretch zero a l r g = let z : a + 0 ≡ a = omega arith in rw z (omega arith)
from_stretch (suc n) a l r g =
    let z : a + 1 + n ≡ a + suc n = omega arith in
    let t : from (a + 1) l ≡ n + from (a + suc n) l =
    rw z at (from_stretch n (a + 1) l r (λ (x : ℕ) p q. g x (omega arith) (omega arith))) in
    omega (arith, from_one a l r (g a (omega arith) (omega arith)), t)
