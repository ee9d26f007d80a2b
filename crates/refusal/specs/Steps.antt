-- Steps that may be refused, and things read at a place.
use Rattle.std.specs.Prelude.{ℕ, Result, Ok, Err}
use Rattle.refusal.specs.declared.Refusal.{Refusal}

-- One step after another: the first refusal is the answer. It plays the part of `?`.
infixl 10 ◌>>=◌
abbrev pub ◌>>=◌ : {A B E : Type 0} → Result A E → (A → Result B E) → Result B E
Ok x >>= f = f x
Err e >>= f = Err e

-- What reading at a place comes to: what was read with the place after it, or a refusal.
abbrev pub Read : Type 0 → Type 0
Read A = Result (A × ℕ) Refusal

-- what was read, with the place after it
abbrev pub ok_at : {A : Type 0} → A → ℕ → Read A
ok_at x next = Ok (x, next)
