-- Whether some entry of a cell names the code of a key.
use Rattle.std.specs.Prelude.{◌≡◌, refl, Bool, true, false, ◌||◌, List, [], ◌∷◌, map, ℕ, Result, Ok, Err}
use Rattle.dial_code.specs.Digits.{digits}
use Rattle.dial_code.specs.Key.{key}
use Rattle.code_entry.specs.Range.{range_keys}
use Rattle.code_entry.specs.Entry.{num, span}
use Rattle.code_entry.specs.declared.CodeRange.{CodeRange}
use Rattle.code_cell.specs.Cell.{names_of}
use Rattle.code_cell.specs.Rising.{holds}
use Rattle.refusal.specs.declared.Refusal.{Refusal}

-- A refused entry names none.
unfoldable pub named : List (Result CodeRange Refusal) → ℕ → Bool
unfolding range_keys
named [] k = false
named (Ok r ∷ ns) k = holds k (range_keys r) || named ns k
named (Err e ∷ ns) k = named ns k

-- 213 beside `7-8`: 2137 and 2138, and neither 2136 nor 213
ends :
    map (named (names_of (num 3 213) (span 1 7 1 8)))
    (map key (digits 4 2137 ∷ digits 4 2138 ∷ digits 4 2136 ∷ digits 3 213 ∷ []))
    ≡ true ∷ true ∷ false ∷ false ∷ []
unfolding named names_of key digits
ends = refl
