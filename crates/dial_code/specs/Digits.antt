-- Digit strings: lists of digits 0 to 9, the first digit first. A code is sent as a count of digits and a value (document 01,
-- "Notice layout"), and a number as ASCII digits, one a byte ("Who can cause a refusal").
use Rattle.std.specs.Prelude.{◌≡◌, refl, Bool, true, false, cond, ◌&&◌, not, List, [], ◌∷◌, map, ℕ, zero, suc, ◌+◌, ◌-◌, ◌*◌, ◌/◌, ◌%◌, ◌^◌, length, eqb, leb, ltb}

-- at most so many digits
abbrev pub most_digits : ℕ
most_digits = 15

-- every member of a list passes a test
abbrev pub every : (ℕ → Bool) → List ℕ → Bool
every f [] = true
every f (x ∷ xs) = f x && every f xs

abbrev pub is_digit : ℕ → Bool
is_digit d = leb d 9

-- The digits of a value written with a count of digits.
unfoldable pub digits : ℕ → ℕ → List ℕ
digits zero v = []
digits (suc k) v = (v / 10 ^ k % 10) ∷ digits k v

-- The value of a digit string.
unfoldable pub value : List ℕ → ℕ
value [] = 0
value (d ∷ ds) = d * 10 ^ length ds + value ds

-- A count of 1 to 15 digits, and a value that so many digits can write.
unfoldable pub is_written : ℕ → ℕ → Bool
is_written count v = leb 1 count && (leb count most_digits && ltb v (10 ^ count))

abbrev pub starts_with_zero : List ℕ → Bool
starts_with_zero [] = false
starts_with_zero (d ∷ ds) = eqb d 0

-- A number has 1 to 15 digits, the first not 0.
unfoldable pub is_number : List ℕ → Bool
is_number ds = leb 1 (length ds) && (leb (length ds) most_digits && (every is_digit ds && not (starts_with_zero ds)))

-- ASCII digits, and the digit that one stands for.
abbrev pub is_ascii : ℕ → Bool
is_ascii b = leb 48 b && leb b 57

abbrev pub digit_of : ℕ → ℕ
digit_of b = b - 48

-- A number given as ASCII digits.
unfoldable pub is_dialled : List ℕ → Bool
unfolding is_number
is_dialled s = every is_ascii s && is_number (map digit_of s)

-- Dictionary order: a digit string stands before its extensions.
unfoldable pub precedes : List ℕ → List ℕ → Bool
precedes [] [] = false
precedes [] (e ∷ es) = true
precedes (d ∷ ds) [] = false
precedes (d ∷ ds) (e ∷ es) = cond (ltb d e) true (eqb d e && precedes ds es)

-- leading zeros count as digits
written :
    digits 5 23480 ∷ digits 3 7 ∷ digits 0 7 ∷ digits 15 999999999999999 ∷ []
    ≡ (2 ∷ 3 ∷ 4 ∷ 8 ∷ 0 ∷ [])
    ∷ (0 ∷ 0 ∷ 7 ∷ [])
    ∷ []
    ∷ (9 ∷ 9 ∷ 9 ∷ 9 ∷ 9 ∷ 9 ∷ 9 ∷ 9 ∷ 9 ∷ 9 ∷ 9 ∷ 9 ∷ 9 ∷ 9 ∷ 9 ∷ [])
    ∷ []
unfolding digits
written = refl

values : value (2 ∷ 3 ∷ 4 ∷ 8 ∷ 0 ∷ []) ∷ value (0 ∷ 0 ∷ 7 ∷ []) ∷ value [] ∷ [] ≡ 23480 ∷ 7 ∷ 0 ∷ []
unfolding value
values = refl

-- counts 0, 1, 15 and 16; the last value of a count and one past it
counts :
    is_written 0 0
    ∷ is_written 1 9
    ∷ is_written 1 10
    ∷ is_written 15 999999999999999
    ∷ is_written 15 1000000000000000
    ∷ is_written 16 0
    ∷ []
    ≡ false ∷ true ∷ false ∷ true ∷ false ∷ false ∷ []
unfolding is_written
counts = refl

-- nothing, a leading 0, 10, a digit that is none, fifteen digits and sixteen
numbers :
    is_number []
    ∷ is_number (0 ∷ 1 ∷ [])
    ∷ is_number (1 ∷ 0 ∷ [])
    ∷ is_number (10 ∷ [])
    ∷ is_number (digits 15 100000000000000)
    ∷ is_number (digits 16 1000000000000000)
    ∷ []
    ≡ false ∷ false ∷ true ∷ false ∷ true ∷ false ∷ []
unfolding is_number digits
numbers = refl

order :
    precedes (1 ∷ []) (1 ∷ 0 ∷ [])
    ∷ precedes (1 ∷ 9 ∷ []) (2 ∷ [])
    ∷ precedes (2 ∷ []) (1 ∷ 9 ∷ [])
    ∷ precedes (3 ∷ []) (3 ∷ [])
    ∷ []
    ≡ true ∷ true ∷ false ∷ false ∷ []
unfolding precedes
order = refl
