-- What a private function of the code read through a reader, told as the rules tell it: with the place after it. No public
-- contract cites it.
use Rattle.std.specs.Prelude.{ℕ, Result, Ok, Err}
use Rattle.refusal.specs.declared.Refusal.{Refusal}
use Rattle.refusal.specs.Steps.{Read, ok_at}

-- with the place where the reader stands then
abbrev pub placed : {A : Type 0} → Result A Refusal → ℕ → Read A
placed (Ok x) at = ok_at x at
placed (Err e) at = Err e
