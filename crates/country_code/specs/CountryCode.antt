-- Country codes after E.164 (document 01, "Codes and countries").
use Rattle.std.specs.Prelude.{◌≡◌, refl, Bool, true, false, cond, ◌&&◌, ◌||◌, List, [], ◌∷◌, map, ℕ, ◌+◌, ◌-◌, ◌*◌, length, take, eqb, leb, Option, Some, None}
use Rattle.dial_code.specs.Digits.{value}
use Rattle.dial_code.specs.Key.{key, keys_end, digits_of_key}

-- the country codes of one digit
abbrev pub one_digit : ℕ → Bool
one_digit a = eqb a 1 || eqb a 7

-- the country codes of two digits, as first and last of each run
pub record Run : Type 0 where
  pub first : ℕ
  pub last : ℕ

abbrev run : ℕ → ℕ → Run
run a b = record { first = a; last = b }

abbrev pub runs : List Run
runs =
    run 20 20
    ∷ run 27 27
    ∷ run 30 34
    ∷ run 36 36
    ∷ run 39 41
    ∷ run 43 49
    ∷ run 51 58
    ∷ run 60 66
    ∷ run 81 82
    ∷ run 84 84
    ∷ run 86 86
    ∷ run 90 95
    ∷ run 98 98
    ∷ []

abbrev pub within : List Run → ℕ → Bool
within [] v = false
within (r ∷ rs) v = leb r.first v && leb v r.last || within rs v

unfoldable pub two_digits : ℕ → Bool
two_digits v = within runs v

-- How many digits the country code of a digit string has: its first digit if that is 1 or 7; its first two if those are a
-- country code of two digits; otherwise its first three.
unfoldable pub country_digits : List ℕ → ℕ
unfolding two_digits
country_digits [] = 3
country_digits (a ∷ []) = cond (one_digit a) 1 3
country_digits (a ∷ b ∷ s) = cond (one_digit a) 1 (cond (two_digits (a * 10 + b)) 2 3)

-- The country code of a digit string, as its value; none where the string is too short to have one.
unfoldable pub country : List ℕ → Option ℕ
unfolding country_digits value
country ds = cond (leb (country_digits ds) (length ds)) (Some (value (take (country_digits ds) ds))) None

-- The country of the code that a word is the key of.
unfoldable pub country_of_key : ℕ → Option ℕ
unfolding country digits_of_key
country_of_key w = country (digits_of_key w)

-- 1, 7, 234…, 44…, 20, 210, 999, and strings too short: nothing, 2, 23, 0
countries :
    country (1 ∷ [])
    ∷ country (7 ∷ 9 ∷ [])
    ∷ country (2 ∷ 3 ∷ 4 ∷ 8 ∷ [])
    ∷ country (4 ∷ 4 ∷ 2 ∷ 0 ∷ [])
    ∷ country (2 ∷ 0 ∷ [])
    ∷ country (2 ∷ 1 ∷ 0 ∷ [])
    ∷ country (9 ∷ 9 ∷ 9 ∷ [])
    ∷ country []
    ∷ country (2 ∷ [])
    ∷ country (2 ∷ 3 ∷ [])
    ∷ country (0 ∷ [])
    ∷ []
    ≡ Some 1 ∷ Some 7 ∷ Some 234 ∷ Some 44 ∷ Some 20 ∷ Some 210 ∷ Some 999 ∷ None ∷ None ∷ None ∷ None ∷ []
unfolding country
countries = refl

-- the ends of each run, and the values beside them
low_ends : map two_digits (19 ∷ 20 ∷ 21 ∷ 26 ∷ 27 ∷ 28 ∷ 29 ∷ 30 ∷ 34 ∷ 35 ∷ 36 ∷ 37 ∷ 38 ∷ [])
    ≡ false ∷ true ∷ false ∷ false ∷ true ∷ false ∷ false ∷ true ∷ true ∷ false ∷ true ∷ false ∷ false ∷ []
unfolding two_digits
low_ends = refl

middle_ends : map two_digits (39 ∷ 40 ∷ 41 ∷ 42 ∷ 43 ∷ 49 ∷ 50 ∷ 51 ∷ 58 ∷ 59 ∷ 60 ∷ 66 ∷ 67 ∷ [])
    ≡ true ∷ true ∷ true ∷ false ∷ true ∷ true ∷ false ∷ true ∷ true ∷ false ∷ true ∷ true ∷ false ∷ []
unfolding two_digits
middle_ends = refl

high_ends : map two_digits (80 ∷ 81 ∷ 82 ∷ 83 ∷ 84 ∷ 85 ∷ 86 ∷ 87 ∷ 89 ∷ 90 ∷ 95 ∷ 96 ∷ 97 ∷ 98 ∷ 99 ∷ [])
    ≡ false ∷ true ∷ true ∷ false ∷ true ∷ false ∷ true ∷ false ∷ false ∷ true ∷ true ∷ false ∷ false ∷ true ∷ false ∷ []
unfolding two_digits
high_ends = refl

-- of the keys of 442, 23480 and 23, of 0, of the last key and of the keys' end
of_keys :
    country_of_key (key (4 ∷ 4 ∷ 2 ∷ []))
    ∷ country_of_key (key (2 ∷ 3 ∷ 4 ∷ 8 ∷ 0 ∷ []))
    ∷ country_of_key (key (2 ∷ 3 ∷ []))
    ∷ country_of_key 0
    ∷ country_of_key (keys_end - 1)
    ∷ country_of_key keys_end
    ∷ []
    ≡ Some 44 ∷ Some 234 ∷ None ∷ None ∷ Some 999 ∷ None ∷ []
unfolding country_of_key key
of_keys = refl
