-- A range of codes: its ends and all codes of their length between (document 02, request 1).
use Rattle.std.specs.Prelude.{◌≡◌, refl, List, [], ◌∷◌, map, ℕ, zero, suc, ◌+◌, ◌-◌}
use Rattle.dial_code.specs.Digits.{digits}
use Rattle.dial_code.specs.Key.{key}
use Rattle.code_entry.specs.declared.CodeRange.{CodeRange}

abbrev pub range_of : ℕ → ℕ → ℕ → CodeRange
range_of k v n = record { digits = k; first = v; count = n }

-- The codes of k digits from a value on, so many.
unfoldable pub codes_from : ℕ → ℕ → ℕ → List (List ℕ)
unfolding digits
codes_from k v zero = []
codes_from k v (suc n) = digits k v ∷ codes_from k (v + 1) n

unfoldable pub range_codes : CodeRange → List (List ℕ)
unfolding codes_from
range_codes r = codes_from r.digits r.first r.count

-- The keys of a range's codes.
unfoldable pub range_keys : CodeRange → List ℕ
unfolding range_codes key
range_keys r = map key (range_codes r)

-- The keys of so many codes of k digits from a value on.
abbrev pub keys_from : ℕ → ℕ → ℕ → List ℕ
keys_from k v n = map key (codes_from k v n)

-- The keys of a range's first and last code.
abbrev pub first_key : CodeRange → ℕ
first_key r = key (digits r.digits r.first)

abbrev pub last_key : CodeRange → ℕ
last_key r = key (digits r.digits (r.first + (r.count - 1)))

-- 2137 and 2138; 098 to 101; one code; none
ranges :
    range_codes (range_of 4 2137 2) ∷ range_codes (range_of 3 98 4) ∷ range_codes (range_of 1 7 1) ∷ range_codes (range_of 1 7 0) ∷ []
    ≡ ((2 ∷ 1 ∷ 3 ∷ 7 ∷ []) ∷ (2 ∷ 1 ∷ 3 ∷ 8 ∷ []) ∷ [])
    ∷ ((0 ∷ 9 ∷ 8 ∷ []) ∷ (0 ∷ 9 ∷ 9 ∷ []) ∷ (1 ∷ 0 ∷ 0 ∷ []) ∷ (1 ∷ 0 ∷ 1 ∷ []) ∷ [])
    ∷ ((7 ∷ []) ∷ [])
    ∷ []
    ∷ []
unfolding range_codes
ranges = refl

keys : range_keys (range_of 4 2137 2) ≡ key (2 ∷ 1 ∷ 3 ∷ 7 ∷ []) ∷ key (2 ∷ 1 ∷ 3 ∷ 8 ∷ []) ∷ []
unfolding range_keys
keys = refl

ends : first_key (range_of 4 2137 2) ∷ last_key (range_of 4 2137 2) ∷ [] ≡ range_keys (range_of 4 2137 2)
unfolding range_keys
ends = refl
