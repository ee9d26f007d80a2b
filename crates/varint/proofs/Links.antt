-- From a rule to one of its cases, a link at a time. Assumes nothing.
use Rattle.std.proofs.Common.{◌≡◌, refl, ap, Bool, true, false, cond, Result, Ok, Err}
use Rattle.refusal.specs.Steps.{◌>>=◌}

module _ {A B E : Type 0} where
  pub on_value : {r : Result A E} {x : A} (f : A → Result B E) → r ≡ Ok x → (r >>= f) ≡ f x
  on_value f e = ap (λ (r : Result A E). r >>= f) e

  pub on_refused : {r : Result A E} {e : E} (f : A → Result B E) → r ≡ Err e → (r >>= f) ≡ Err e
  on_refused f e = ap (λ (r : Result A E). r >>= f) e

module _ {X : Type 0} where
  pub yes_case : {t : Bool} (a b : X) → t ≡ true → cond t a b ≡ a
  yes_case a b e = ap (λ (t : Bool). cond t a b) e

  pub no_case : {t : Bool} (a b : X) → t ≡ false → cond t a b ≡ b
  no_case a b e = ap (λ (t : Bool). cond t a b) e

-- What holds of both branches holds of the one that is taken.
pub either : {X : Type 0} (Q : X → Type 0) (t : Bool) (a b : X) → (t ≡ true → Q a) → (t ≡ false → Q b) → Q (cond t a b)
either Q true a b f g = f refl
either Q false a b f g = g refl
