-- Keys (document 01, "Codes and countries").
use Rattle.std.specs.Prelude.{◌≡◌, refl, Bool, true, false, cond, List, [], ◌∷◌, ℕ, zero, suc, ◌+◌, ◌-◌, ◌*◌, ◌/◌, ◌%◌, ◌^◌, eqb, ltb, length, Result, Ok, Err}
use Rattle.dial_code.specs.Digits.{most_digits, digits, value, is_written}
use Rattle.dial_code.specs.declared.Code.{Code}
use Rattle.refusal.specs.declared.Refusal.TheVariants.{OutOfRange}
use Rattle.refusal.specs.declared.Refusal.{Refusal}

-- The sum over the places i of a digit string, counted on from a first place, of (digit + 1) × 11^(15 − i).
unfoldable pub key_from : ℕ → List ℕ → ℕ
key_from i [] = 0
key_from i (d ∷ ds) = (d + 1) * 11 ^ (most_digits - i) + key_from (i + 1) ds

-- The key of a digit string.
unfoldable pub key : List ℕ → ℕ
unfolding key_from
key ds = key_from 1 ds

-- every key is below this
abbrev pub keys_end : ℕ
keys_end = 11 ^ most_digits

-- The weight of the first place, and of the third.
abbrev pub first_place : ℕ
first_place = 11 ^ 14

abbrev pub third_place : ℕ
third_place = 11 ^ 12

-- The digits of at most k places of a word, up to the first place that holds none: the first place holds the digit + 1, and
-- the places after it move up.
unfoldable pub places_of : ℕ → ℕ → List ℕ
places_of zero w = []
places_of (suc k) w = cond (eqb (w / first_place) 0) [] ((w / first_place - 1) ∷ places_of k (w % first_place * 11))

-- The digit string that a word is the key of, if it is one.
unfoldable pub digits_of_key : ℕ → List ℕ
unfolding places_of
digits_of_key w = cond (ltb w keys_end) (places_of most_digits w) []

-- No gap: a word is the key of the digits of its first k places, so that none holds a digit after one that holds none.
unfoldable pub is_gapless : ℕ → ℕ → Bool
unfolding key places_of
is_gapless k w = eqb (key (places_of k w)) w

-- The code that a word is the key of, as it is sent: how many digits it has, and their value.
unfoldable pub code_of : ℕ → Code
unfolding digits_of_key value
code_of w = record { count = length (digits_of_key w); value = value (digits_of_key w) }

-- The key of a code sent as a count of digits and a value, or that one is outside its range.
unfoldable pub code_key : ℕ → ℕ → Result ℕ Refusal
unfolding key digits is_written
code_key count v = cond (is_written count v) (Ok (key (digits count v))) (Err OutOfRange)

-- The key of a key's first n digits: the key less its remainder by 11^(15 − n).
unfoldable pub prefix_key : ℕ → ℕ → ℕ
prefix_key w n = w - w % 11 ^ (most_digits - n)

-- code 1, and the last key
first_key_law : key (1 ∷ []) ≡ 759499667166482
unfolding key
first_key_law = refl

last_key_law : key (digits 15 999999999999999) + 1 ≡ keys_end
unfolding key digits
last_key_law = refl

-- 1 before 10 before 11 before 2
ordered :
    ltb (key (1 ∷ [])) (key (1 ∷ 0 ∷ []))
    ∷ ltb (key (1 ∷ 0 ∷ [])) (key (1 ∷ 1 ∷ []))
    ∷ ltb (key (1 ∷ 1 ∷ [])) (key (2 ∷ []))
    ∷ []
    ≡ true ∷ true ∷ true ∷ []
unfolding key
ordered = refl

-- the digits of a key, of 0 and of the keys' end
back :
    digits_of_key (key (2 ∷ 3 ∷ 4 ∷ 8 ∷ 0 ∷ [])) ∷ digits_of_key 0 ∷ digits_of_key keys_end ∷ []
    ≡ (2 ∷ 3 ∷ 4 ∷ 8 ∷ 0 ∷ []) ∷ [] ∷ [] ∷ []
unfolding digits_of_key key
back = refl

-- a key, 0, the last key and the keys' end; a gap in the first place, in the third, and before the last; more places than k
gapless :
    is_gapless most_digits (key (2 ∷ 3 ∷ 4 ∷ []))
    ∷ is_gapless most_digits 0
    ∷ is_gapless most_digits (keys_end - 1)
    ∷ is_gapless most_digits keys_end
    ∷ is_gapless most_digits (first_place - 1)
    ∷ is_gapless most_digits (key (2 ∷ 3 ∷ []) + third_place / 11)
    ∷ is_gapless most_digits (key (2 ∷ 3 ∷ 4 ∷ []) + 1)
    ∷ is_gapless 3 (key (2 ∷ 3 ∷ 4 ∷ []))
    ∷ is_gapless 2 (key (2 ∷ 3 ∷ 4 ∷ []))
    ∷ []
    ≡ true ∷ true ∷ true ∷ true ∷ false ∷ false ∷ false ∷ true ∷ false ∷ []
unfolding is_gapless
gapless = refl

-- 23480, 007, and words that are no key: 0, and the keys' end
sent :
    code_of (key (2 ∷ 3 ∷ 4 ∷ 8 ∷ 0 ∷ [])) ∷ code_of (key (0 ∷ 0 ∷ 7 ∷ [])) ∷ code_of 0 ∷ code_of keys_end ∷ []
    ≡ record { count = 5; value = 23480 }
    ∷ record { count = 3; value = 7 }
    ∷ record { count = 0; value = 0 }
    ∷ record { count = 0; value = 0 }
    ∷ []
unfolding code_of key
sent = refl

-- code 1, a count of 0 and of 16, a value too large for its count, code 01
code_keys :
    code_key 1 1 ∷ code_key 0 0 ∷ code_key 16 1 ∷ code_key 2 100 ∷ code_key 2 1 ∷ []
    ≡ Ok 759499667166482 ∷ Err OutOfRange ∷ Err OutOfRange ∷ Err OutOfRange ∷ Ok (key (0 ∷ 1 ∷ [])) ∷ []
unfolding code_key
code_keys = refl

-- the first two digits of 234, all three, none
prefixes :
    prefix_key (key (2 ∷ 3 ∷ 4 ∷ [])) 2 ∷ prefix_key (key (2 ∷ 3 ∷ 4 ∷ [])) 3 ∷ prefix_key (key (2 ∷ [])) 0 ∷ []
    ≡ key (2 ∷ 3 ∷ []) ∷ key (2 ∷ 3 ∷ 4 ∷ []) ∷ 0 ∷ []
unfolding prefix_key key
prefixes = refl
