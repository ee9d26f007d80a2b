-- A line's code (document 01, "Notice layout"): digit count and value. Fields in byte order, within one field by number.
use Rattle.std.specs.Prelude.{◌≡◌, refl, Bool, true, false, cond, List, [], ◌∷◌, ℕ, ◌^◌, eqb, ltb, Err, Option, Some, None}
use Rattle.varint.specs.Reading.{read_number}
use Rattle.dial_code.specs.Digits.{most_digits, digits}
use Rattle.dial_code.specs.Key.{key}
use Rattle.country_code.specs.CountryCode.{country}
use Rattle.allowed_code.specs.Code.{is_code}
use Rattle.varint.specs.Ranged.{read_ranged}
use Rattle.refusal.specs.declared.Refusal.TheVariants.{BytesEnd, CodeNotAllowed, KeysNotRising, OutOfRange, OutsideCountry}
use Rattle.refusal.specs.Steps.{◌>>=◌, Read, ok_at}

-- The country of a digit string is this one.
abbrev pub is_country : Option ℕ → ℕ → Bool
is_country (Some c) n = eqb c n
is_country None n = false

-- It is the one that a notice names, where it names one.
abbrev pub lies_in : Option ℕ → Option ℕ → Bool
lies_in country (Some n) = is_country country n
lies_in country None = true

-- A code's value field: below 10^count (4), an allowed code (5), a key above the line before's (6), in the replacement's
-- country (7). The key before is 0 for the first line; only a replacement names a country.
unfoldable pub code_field : Option ℕ → ℕ → ℕ → ℕ → ℕ → Read ℕ
code_field named before count v at =
    cond (ltb v (10 ^ count))
    (cond (is_code (digits count v))
    (cond (ltb before (key (digits count v)))
    (cond (lies_in (country (digits count v)) named) (ok_at (key (digits count v)) at) (Err OutsideCountry))
    (Err KeysNotRising))
    (Err CodeNotAllowed))
    (Err OutOfRange)

-- 44 after 1 and in country 44; a value too large for its count; 01, 0 and 23, which are no codes; 44 after itself and after 45;
-- 44 in a replacement of 7, and after 45 there, where the order comes first
code_fields :
    code_field None (key (1 ∷ [])) 2 44 5
    ∷ code_field (Some 44) 0 2 44 5
    ∷ code_field None 0 1 10 5
    ∷ code_field None 0 2 1 5
    ∷ code_field None 0 1 0 5
    ∷ code_field None 0 2 23 5
    ∷ code_field None (key (4 ∷ 4 ∷ [])) 2 44 5
    ∷ code_field None (key (4 ∷ 5 ∷ [])) 2 44 5
    ∷ code_field (Some 7) 0 2 44 5
    ∷ code_field (Some 7) (key (4 ∷ 5 ∷ [])) 2 44 5
    ∷ []
    ≡ ok_at (key (4 ∷ 4 ∷ [])) 5
    ∷ ok_at (key (4 ∷ 4 ∷ [])) 5
    ∷ Err OutOfRange
    ∷ Err CodeNotAllowed
    ∷ Err CodeNotAllowed
    ∷ Err CodeNotAllowed
    ∷ Err KeysNotRising
    ∷ Err KeysNotRising
    ∷ Err OutsideCountry
    ∷ Err KeysNotRising
    ∷ []
unfolding code_field key digits is_code country
code_fields = refl

-- A line's code: its digit count, 1 to 15, and its value. Gives its key.
unfoldable pub read_code : Option ℕ → ℕ → List ℕ → ℕ → Read ℕ
read_code named before s at = do
  (count, next) ← read_ranged s at 1 most_digits
  (v, end) ← read_number s next
  code_field named before count v end

-- 44 at a place; no byte, a digit count and no value; a digit count of 0 and of 16; a value above its digits
codes_read :
    read_code None 0 (9 ∷ 2 ∷ 44 ∷ []) 1
    ∷ read_code None 0 [] 0
    ∷ read_code None 0 (2 ∷ []) 0
    ∷ read_code None 0 (0 ∷ 0 ∷ []) 0
    ∷ read_code None 0 (16 ∷ 1 ∷ []) 0
    ∷ read_code None 0 (1 ∷ 10 ∷ []) 0
    ∷ []
    ≡ ok_at (key (4 ∷ 4 ∷ [])) 3
    ∷ Err BytesEnd
    ∷ Err BytesEnd
    ∷ Err OutOfRange
    ∷ Err OutOfRange
    ∷ Err OutOfRange
    ∷ []
unfolding read_code code_field read_ranged read_number key digits is_code country
codes_read = refl
