-- A cell read entry by entry, each by the rule of the entry at the front.
use Rattle.std.specs.Prelude.{◌≡◌, refl, cond, List, [], ◌∷◌, ◌++◌, map, ℕ, zero, suc, ltb, length, Result, Ok, Err}
use Rattle.dial_code.specs.Digits.{digits}
use Rattle.dial_code.specs.Key.{key}
use Rattle.code_entry.specs.Entry.{blank, comma, rest_of, num, span}
use Rattle.code_cell.specs.Cell.{insert_all, entry_keys}
use Rattle.refusal.specs.declared.Refusal.TheVariants.{KeysTooMany}
use Rattle.refusal.specs.Steps.{◌>>=◌}
use Rattle.refusal.specs.declared.Refusal.{Refusal}

-- What one entry names joins the keys so far: 52 where they are then more than the room.
unfoldable pub joined : ℕ → List ℕ → Result (List ℕ) Refusal → Result (List ℕ) Refusal
unfolding insert_all
joined room l (Err e) = Err e
joined room l (Ok ks) = cond (ltb room (length (insert_all ks l))) (Err KeysTooMany) (Ok (insert_all ks l))

-- Done where nothing is left; else on behind the comma.
abbrev pub behind : List ℕ → Result (List ℕ) Refusal → (List ℕ → Result (List ℕ) Refusal) → Result (List ℕ) Refusal
behind [] done f = done
behind (b ∷ s) done f = f s

-- At most n entries, into the keys l.
unfoldable pub entries_into : ℕ → List ℕ → ℕ → List ℕ → List ℕ → Result (List ℕ) Refusal
unfolding joined entry_keys rest_of
entries_into zero c room l s = Ok l
entries_into (suc n) c room l s = do
  m ← joined room l (entry_keys c s room)
  behind (rest_of s) (Ok m) (entries_into n c room m)

-- A cell has no more entries than bytes and one.
unfoldable pub by_entries : List ℕ → ℕ → List ℕ → Result (List ℕ) Refusal
unfolding entries_into
by_entries c room s = entries_into (suc (length s)) c room [] s

-- 213 beside `61, 7-8`
algeria :
    by_entries (num 3 213) 3 (num 2 61 ++ (comma ∷ blank ∷ span 1 7 1 8))
    ≡ Ok (map key (digits 5 21361 ∷ digits 4 2137 ∷ digits 4 2138 ∷ []))
unfolding by_entries key digits
algeria = refl
