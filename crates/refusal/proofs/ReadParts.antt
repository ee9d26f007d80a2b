-- Laws of readings. Assumes nothing.
use Rattle.std.proofs.Common.{◌≡◌, ℕ, Ok, Err, ap}
use Rattle.refusal.specs.Steps.{Read, ok_at}
use Rattle.refusal.specs.declared.Refusal.{Refusal}

-- What is read is no refusal.
pub apart : {A : Type 0} {x : A} {n : ℕ} {e : Refusal} → ok_at x n ≡ Err e → ⊥
apart p = cc

-- One reading has one thing read and one place after it.
pub same_read : {A : Type 0} {x y : A} {n m : ℕ} → ok_at x n ≡ ok_at y m → (x ≡ y) × (n ≡ m)
same_read {A} {x} {y} {n} {m} p = (ap (λ (r : Read A). (parts r).0) p, ap (λ (r : Read A). (parts r).1) p)
  where
    parts : Read A → A × ℕ
    parts (Ok r) = r
    parts (Err e) = (x, n)
