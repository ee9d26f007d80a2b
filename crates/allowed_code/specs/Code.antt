-- Allowed codes (document 01, "Codes and countries").
use Rattle.std.specs.Prelude.{◌≡◌, refl, Bool, true, false, cond, ◌&&◌, List, [], ◌∷◌, ℕ, ◌+◌, length, eqb, leb, Result, Ok, Err}
use Rattle.dial_code.specs.Digits.{most_digits, digits, is_written, is_number}
use Rattle.dial_code.specs.Key.{key, digits_of_key, keys_end, is_gapless}
use Rattle.country_code.specs.CountryCode.{country_digits}
use Rattle.country_code.specs.Stretches.{same_places}
use Rattle.refusal.specs.declared.Refusal.TheVariants.{CodeNotAllowed, OutOfRange}
use Rattle.refusal.specs.declared.Refusal.{Refusal}

-- An allowed code: 1 to 15 digits, the first not 0, and not shorter than its country code (000, 2i).
unfoldable pub is_code : List ℕ → Bool
unfolding is_number country_digits
is_code ds = is_number ds && leb (country_digits ds) (length ds)

-- Whether a word is the key of an allowed code.
unfoldable pub is_code_key : ℕ → Bool
unfolding key digits_of_key is_code
is_code_key w = eqb (key (digits_of_key w)) w && is_code (digits_of_key w)

-- The same of a word after a code's key: with the first three places of that key it has its country, and only gaps are left to
-- find. A building block of passes over keys: after a word that is no code's key it can say yes to one that is none either.
unfoldable pub is_code_key_after : ℕ → ℕ → Bool
unfolding same_places is_gapless is_code_key
is_code_key_after k w = cond (same_places k w) (is_gapless most_digits w) (is_code_key w)

-- The key of an allowed code sent as a count of digits and a value, or that one is outside its range, or that it is not allowed.
unfoldable pub sent_code_key : ℕ → ℕ → Result ℕ Refusal
unfolding key digits is_written is_code
sent_code_key count v =
    cond (is_written count v) (cond (is_code (digits count v)) (Ok (key (digits count v))) (Err CodeNotAllowed))
    (Err OutOfRange)

codes :
    is_code (1 ∷ [])
    ∷ is_code (2 ∷ 3 ∷ 4 ∷ [])
    ∷ is_code (4 ∷ 4 ∷ [])
    ∷ is_code []
    ∷ is_code (0 ∷ 1 ∷ 2 ∷ [])
    ∷ is_code (2 ∷ 3 ∷ [])
    ∷ is_code (2 ∷ [])
    ∷ []
    ≡ true ∷ true ∷ true ∷ false ∷ false ∷ false ∷ false ∷ []
unfolding is_code
codes = refl

-- keys of 1, of 23, of 012; words that are no key: 0, one more than a key with room below, a gap in the places, the keys' end
code_keys :
    is_code_key 759499667166482
    ∷ is_code_key (key (2 ∷ 3 ∷ []))
    ∷ is_code_key (key (0 ∷ 1 ∷ 2 ∷ []))
    ∷ is_code_key 0
    ∷ is_code_key 759499667166483
    ∷ is_code_key (key (1 ∷ 2 ∷ []) + 1)
    ∷ is_code_key keys_end
    ∷ []
    ≡ true ∷ false ∷ false ∷ false ∷ false ∷ false ∷ false ∷ []
unfolding is_code_key
code_keys = refl

-- after 234: 2341, with a gap before the last place, 235, 23, 2; 1 and 2 after 0, whose first three places they do not have; and
-- after words that are no code's key: 0 after itself, the keys' end after itself, after 0 and before it
keys_after :
    is_code_key_after (key (2 ∷ 3 ∷ 4 ∷ [])) (key (2 ∷ 3 ∷ 4 ∷ 1 ∷ []))
    ∷ is_code_key_after (key (2 ∷ 3 ∷ 4 ∷ [])) (key (2 ∷ 3 ∷ 4 ∷ []) + 1)
    ∷ is_code_key_after (key (2 ∷ 3 ∷ 4 ∷ [])) (key (2 ∷ 3 ∷ 5 ∷ []))
    ∷ is_code_key_after (key (2 ∷ 3 ∷ 4 ∷ [])) (key (2 ∷ 3 ∷ []))
    ∷ is_code_key_after (key (2 ∷ 3 ∷ 4 ∷ [])) (key (2 ∷ []))
    ∷ is_code_key_after 0 (key (1 ∷ []))
    ∷ is_code_key_after 0 (key (2 ∷ []))
    ∷ is_code_key_after 0 0
    ∷ is_code_key_after keys_end keys_end
    ∷ is_code_key_after 0 keys_end
    ∷ is_code_key_after keys_end 0
    ∷ []
    ≡ true ∷ false ∷ true ∷ false ∷ false ∷ true ∷ false ∷ true ∷ true ∷ false ∷ false ∷ []
unfolding is_code_key_after
keys_after = refl

-- 1, 234, 44, fifteen digits; counts of 0 and 16, a value too large for its count; 0, 012, 2, 23
sent_codes :
    sent_code_key 1 1
    ∷ sent_code_key 3 234
    ∷ sent_code_key 2 44
    ∷ sent_code_key 15 100000000000000
    ∷ sent_code_key 0 0
    ∷ sent_code_key 16 1000000000000000
    ∷ sent_code_key 1 10
    ∷ sent_code_key 1 0
    ∷ sent_code_key 3 12
    ∷ sent_code_key 1 2
    ∷ sent_code_key 2 23
    ∷ []
    ≡ Ok 759499667166482
    ∷ Ok (key (2 ∷ 3 ∷ 4 ∷ []))
    ∷ Ok (key (4 ∷ 4 ∷ []))
    ∷ Ok (key (1 ∷ 0 ∷ 0 ∷ 0 ∷ 0 ∷ 0 ∷ 0 ∷ 0 ∷ 0 ∷ 0 ∷ 0 ∷ 0 ∷ 0 ∷ 0 ∷ 0 ∷ []))
    ∷ Err OutOfRange
    ∷ Err OutOfRange
    ∷ Err OutOfRange
    ∷ Err CodeNotAllowed
    ∷ Err CodeNotAllowed
    ∷ Err CodeNotAllowed
    ∷ Err CodeNotAllowed
    ∷ []
unfolding sent_code_key
sent_codes = refl
