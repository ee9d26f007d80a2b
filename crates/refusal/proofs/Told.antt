-- What the answer of a reader of bytes from outside tells: of what is read, and of a refusal that it is one of 1 to 9.
-- Assumes nothing.
use Prim.Native.Nat.{ℕ, ◌≤◌}
use Rattle.std.proofs.Common.{◌≡◌, refl, subst, Result, Ok, Err}
use Rattle.refusal.specs.Refusal.{number_of}
use Rattle.refusal.specs.Steps.{◌>>=◌, Read}
use Rattle.refusal.specs.declared.Refusal.{Refusal}

-- one of the refusals of bytes from outside (document 01, 1 to 9)
abbrev pub Known : Refusal → Type 0
Known e = (1 ≤ number_of e) × (number_of e ≤ 9)

-- What an answer tells, if what is accepted tells P.
unfoldable pub Told : {X : Type 0} → (X → Type 0) → Result X Refusal → Type 0
Told P (Ok x) = P x
Told P (Err e) = Known e

-- The same of what is read at a place, and of the place after it.
abbrev pub ReadTold : {X : Type 0} → (X → ℕ → Type 0) → Read X → Type 0
ReadTold P = Told (λ r. P r.0 r.1)

module _ {X : Type 0} (P : X → Type 0) where
  pub tells : {r : (Result X Refusal)} {x : X} → Told P r → r ≡ Ok x → P x
  unfolding Told
  tells t e = subst (Told P) e t

  pub refuses : {r : (Result X Refusal)} {e : Refusal} → Told P r → r ≡ Err e → Known e
  unfolding Told
  refuses t e = subst (Told P) e t

  -- What follows an answer: told from what the answer tells, and a refusal is handed on.
  pub then_told : {Y : Type 0} (Q : Y → Type 0) (r : Result X Refusal) (f : X → Result Y Refusal) → Told P r
      → ((x : X) → r ≡ Ok x → P x → Told Q (f x)) → Told Q (r >>= f)
  unfolding Told
  then_told Q (Ok x) f t h = h x refl t
  then_told Q (Err e) f t h = t

pub then_read : {X Y : Type 0} (P : X → ℕ → Type 0) (Q : Y → Type 0) (r : Read X) (f : X × ℕ → Result Y Refusal) → ReadTold P r
    → ((x : X) (end : ℕ) → r ≡ Ok (x, end) → P x end → Told Q (f (x, end))) → Told Q (r >>= f)
then_read P Q r f t h = then_told (λ r. P r.0 r.1) Q r f t (λ x. h x.0 x.1)
