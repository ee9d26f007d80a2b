-- The test of a range, and what is held to one. Assumes nothing.
use mathlib.Core.Path.{◌≡◌, ap}
use mathlib.Core.Bool.{Bool, true, false, cond, ◌&&◌, and-eq-true_iff}
use Prim.Native.Nat.{ℕ, ◌≤◌}
use borrow.Author.Tests.{leb-true}
use lib.Dec.{leb}
use Rattle.refusal.specs.Steps.{◌>>=◌, Read}
use Rattle.refusal.specs.declared.Refusal.{Refusal}
use Rattle.refusal.specs.declared.Refusal.TheVariants.{OutOfRange}
use Rattle.varint.specs.Ranged.{KeptIf, HeldIn, in_range}
use Rattle.std.proofs.Common.{Result, Ok, Err}
use Rattle.std.specs.Prelude.{IsErrAnd}

-- A test of a range tells both of its sides.
pub both_sides : (least most n : ℕ) → (leb least n && leb n most) ≡ true → (least ≤ n) × (n ≤ most)
both_sides least most n t =
    let b = (and-eq-true_iff (leb least n) (leb n most)).0 t in
    (leb-true _ _ b.0, leb-true _ _ b.1)

-- Where a function makes the errors, what is held to a range is one answer.
module _ {E : Type 0} (make : Refusal → E) where
  refused_so : (answer : Result (ℕ × ℕ) E) → IsErrAnd answer (λ (e : E). e ≡ make OutOfRange) → answer ≡ Err (make OutOfRange)
  refused_so (Ok read) h = absurd h
  refused_so (Err e) h = ap Err h

  pub made_is :
      (read : Result (ℕ × ℕ) E) (least most : ℕ) (answer : Result (ℕ × ℕ) E)
      → HeldIn (λ (x : Refusal) (e : E). e ≡ make x) read least most answer
      → answer ≡ (read >>= λ (r : ℕ × ℕ). cond (leb least r.0 && leb r.0 most) (Ok r) (Err (make OutOfRange)))
  made_is (Err e) least most answer h = h
  made_is (Ok (n, at)) least most answer h = go (leb least n && leb n most) h
    where
      go : (t : Bool) → KeptIf (λ (x : Refusal) (e : E). e ≡ make x) t (Ok (n, at)) answer
          → answer ≡ cond t (Ok (n, at)) (Err (make OutOfRange))
      go true k = k
      go false k = refused_so answer k

-- Held to a range with refusals for errors it is what `in_range` gives.
pub held_is :
    (read : Read ℕ) (least most : ℕ) (answer : Read ℕ)
    → HeldIn (λ (x : Refusal) (e : Refusal). e ≡ x) read least most answer
    → answer ≡ in_range read least most
held_is read least most answer h = made_is (λ (x : Refusal). x) read least most answer h
