-- The keys of numbers (document 01, "Codes and countries").
use Rattle.std.specs.Prelude.{◌≡◌, refl, cond, ◌&&◌, List, [], ◌∷◌, map, ℕ, Result, Ok, Err}
use Rattle.dial_code.specs.Digits.{digits, is_written, is_number, digit_of, is_dialled}
use Rattle.dial_code.specs.Key.{key}
use Rattle.refusal.specs.declared.Refusal.TheVariants.{NotANumber}
use Rattle.refusal.specs.declared.Refusal.{Refusal}

-- The key of a number given as ASCII digits, or that it is none.
unfoldable pub number_key : List ℕ → Result ℕ Refusal
unfolding key is_dialled
number_key s = cond (is_dialled s) (Ok (key (map digit_of s))) (Err NotANumber)

-- The key of a number sent as a count of digits and a value, or that it is none.
unfoldable pub sent_number_key : ℕ → ℕ → Result ℕ Refusal
unfolding key digits is_written is_number
sent_number_key count v =
    cond (is_written count v && is_number (digits count v)) (Ok (key (digits count v))) (Err NotANumber)

-- "1", nothing, "01", "1/", "1:", sixteen ones
number_keys :
    number_key (49 ∷ [])
    ∷ number_key []
    ∷ number_key (48 ∷ 49 ∷ [])
    ∷ number_key (49 ∷ 47 ∷ [])
    ∷ number_key (49 ∷ 58 ∷ [])
    ∷ number_key (49 ∷ 49 ∷ 49 ∷ 49 ∷ 49 ∷ 49 ∷ 49 ∷ 49 ∷ 49 ∷ 49 ∷ 49 ∷ 49 ∷ 49 ∷ 49 ∷ 49 ∷ 49 ∷ [])
    ∷ []
    ≡ Ok 759499667166482 ∷ Err NotANumber ∷ Err NotANumber ∷ Err NotANumber ∷ Err NotANumber ∷ Err NotANumber ∷ []
unfolding number_key
number_keys = refl

-- 1, 0, 01, counts of 0 and 16, a value too large for its count, fifteen digits
sent_keys :
    sent_number_key 1 1
    ∷ sent_number_key 1 0
    ∷ sent_number_key 2 1
    ∷ sent_number_key 0 0
    ∷ sent_number_key 16 1000000000000000
    ∷ sent_number_key 1 10
    ∷ sent_number_key 15 100000000000000
    ∷ []
    ≡ Ok 759499667166482
    ∷ Err NotANumber
    ∷ Err NotANumber
    ∷ Err NotANumber
    ∷ Err NotANumber
    ∷ Err NotANumber
    ∷ Ok (key (1 ∷ 0 ∷ 0 ∷ 0 ∷ 0 ∷ 0 ∷ 0 ∷ 0 ∷ 0 ∷ 0 ∷ 0 ∷ 0 ∷ 0 ∷ 0 ∷ 0 ∷ []))
    ∷ []
unfolding sent_number_key
sent_keys = refl
