-- Tests on numbers, and what they show. Assumes nothing.
use Rattle.std.proofs.Common.{◌≡◌, ap, Bool, true, false, ◌&&◌, ℕ, zero, suc, ◌<◌, eqb, inl, inr, ◌∙◌, arith}
use Rattle.std.proofs.lemmas.Bool.{and_parts, and_left, and_right, cases_eq, cases_order}
use Rattle.std.proofs.lemmas.Bool.Decides.{nat_tests}

-- both of two tests hold where their conjunction does
pub both : (a b : Bool) → (a && b) ≡ true → (a ≡ true) × (b ≡ true)
both a b = and_parts a b

-- a conjunction, one of its tests known
pub and_right_false : (a : Bool) {b : Bool} → b ≡ false → (a && b) ≡ false
and_right_false a {b} e = and_right a b e

pub and_left_false : {a : Bool} (b : Bool) → a ≡ false → (a && b) ≡ false
and_left_false {a} b e = and_left a b e

pub and_left_true : {a : Bool} (b : Bool) → a ≡ true → (a && b) ≡ b
and_left_true b e = rw e

pub and_right_true : (a : Bool) {b : Bool} → b ≡ true → (a && b) ≡ a
and_right_true a e = grind arith

-- a number that is not 0
pub positive : {n : ℕ} → (n ≡ 0 → ⊥) → 0 < n
positive h = omega arith

-- how two numbers compare
pub data Order (a b : ℕ) : Type 0 where
  below : a < b → Order a b
  equal : a ≡ b → Order a b
  above : b < a → Order a b

pub order : (a b : ℕ) → Order a b
order a b = elim (cases_order a b) [
  | inl e ↦ equal e
  | inr n ↦ elim n [ inl l ↦ below l | inr l ↦ above l ]
]

-- two tests agree that hold of each other's facts
pub same_test : (s t : Bool) → (s ≡ true → t ≡ true) → (t ≡ true → s ≡ true) → s ≡ t
same_test s t f g = grind arith

pub same_eqb : (a b c d : ℕ) → (a ≡ b → c ≡ d) → (c ≡ d → a ≡ b) → eqb a b ≡ eqb c d
same_eqb a b c d f g = grind (arith, nat_tests)

-- a test that holds of every number below a bound, found by computing it
unfoldable pub all_below : (ℕ → Bool) → ℕ → Bool
all_below f zero = true
all_below f (suc n) = f n && all_below f n

pub each_below : (f : ℕ → Bool) (n : ℕ) → all_below f n ≡ true → (k : ℕ) → k < n → f k ≡ true
unfolding all_below
each_below f zero e k h = absurd (omega arith)
each_below f (suc n) e k h =
    let p = and_parts (f n) (all_below f n) e in
    elim (cases_eq k n) [
      | inl l ↦ ap f l ∙ p.0
      | inr l ↦ each_below f n p.1 k (omega arith)
    ]
