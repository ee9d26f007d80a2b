-- A number and what follows it (document 01, "Notice layout"): what its value may be, and the rest of the reading.
use Rattle.std.specs.Prelude.{◌≡◌, refl, Bool, true, false, cond, ◌&&◌, List, [], ◌∷◌, ℕ, leb, Result, Ok, Err, IsErrAnd}
use Rattle.refusal.specs.Steps.{◌>>=◌, Read, ok_at}
use Rattle.varint.specs.Reading.{read_number}
use Rattle.refusal.specs.declared.Refusal.{Refusal}
use Rattle.refusal.specs.declared.Refusal.TheVariants.{BytesEnd, NotShortest, OutOfRange}

-- A number from least to most, else refusal 4.
abbrev pub ranged : ℕ → ℕ → ℕ → ℕ → Read ℕ
ranged least most n at = cond (leb least n && leb n most) (ok_at n at) (Err OutOfRange)

-- What was read, held to the range: a refusal stays what it is.
abbrev pub in_range : Read ℕ → ℕ → ℕ → Read ℕ
in_range read least most = do
  (n, at) ← read
  ranged least most n at

-- An answer to what was read, with errors of any kind, held to the range: what was read, and for a number out of it an error that
-- refusal 4 makes. `Made` holds of a refusal and each error that it makes: where this is the refusal itself, the answer is
-- `in_range` (`held_is`, proofs/Ranges.antt).
abbrev pub KeptIf : {E : Type 0} → (Refusal → E → Type 0) → Bool → Result (ℕ × ℕ) E → Result (ℕ × ℕ) E → Type 0
KeptIf Made true read answer = answer ≡ read
KeptIf Made false read answer = IsErrAnd answer (Made OutOfRange)

abbrev pub HeldIn : {E : Type 0} → (Refusal → E → Type 0) → Result (ℕ × ℕ) E → ℕ → ℕ → Result (ℕ × ℕ) E → Type 0
HeldIn Made (Ok (n, at)) least most answer = KeptIf Made (leb least n && leb n most) (Ok (n, at)) answer
HeldIn Made (Err e) least most answer = answer ≡ Err e

-- The number at a position, from least to most.
unfoldable pub read_ranged : List ℕ → ℕ → ℕ → ℕ → Read ℕ
read_ranged s at least most = in_range (read_number s at) least most

bytes : List ℕ
bytes = 1 ∷ 15 ∷ 16 ∷ 0 ∷ []

-- the least and the most, one above and one below, no byte, a number that is not shortest
edges :
    read_ranged bytes 0 1 15
    ∷ read_ranged bytes 1 1 15
    ∷ read_ranged bytes 2 1 15
    ∷ read_ranged bytes 3 1 15
    ∷ read_ranged (1 ∷ []) 1 1 15
    ∷ read_ranged (0x80 ∷ 0 ∷ []) 0 0 15
    ∷ []
    ≡ ok_at 1 1 ∷ ok_at 15 2 ∷ Err OutOfRange ∷ Err OutOfRange ∷ Err BytesEnd ∷ Err NotShortest ∷ []
unfolding bytes read_ranged read_number
edges = refl
