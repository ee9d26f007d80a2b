-- The headline laws of dial_code, stated again in full: digit strings and keys (document 01, "Codes and countries"), for every
-- length together. Assumes nothing.
use mathlib.Core.Path.{◌≡◌}
use mathlib.Core.Bool.{true}
use mathlib.Core.List.{List}
use Prim.Native.Nat.{ℕ, ◌^◌, ◌≤◌, ◌<◌}
use lib.Dec.{ltb}
use lib.ListN.{length, take}
use Rattle.dial_code.specs.Digits.{digits, value, every, is_digit, precedes}
use Rattle.dial_code.specs.Key.{key, keys_end, digits_of_key, prefix_key}
use Rattle.dial_code.proofs.DigitLaws as digit_laws
use Rattle.dial_code.proofs.KeyLaws as key_laws

-- A digit string, and its count of digits with its value, determine each other.

-- A digit string comes back from its length and its value.
pub digits_value : (ds : List ℕ) → every is_digit ds ≡ true → digits (length ds) (value ds) ≡ ds
digits_value = digit_laws.digits_value

-- A value that so many digits can write comes back from its digits.
pub value_digits : (k v : ℕ) → v < 10 ^ k → value (digits k v) ≡ v
value_digits = digit_laws.value_digits

-- A value written with a count of digits has that many.
pub length_digits : (k v : ℕ) → length (digits k v) ≡ k
length_digits = digit_laws.length_digits

-- They are digits.
pub digits_are : (k v : ℕ) → every is_digit (digits k v) ≡ true
digits_are = digit_laws.digits_are

-- Keys.

-- Every key is below 11 to the power 15.
pub below_end : (ds : List ℕ) → every is_digit ds ≡ true → length ds ≤ 15 → key ds < keys_end
below_end = key_laws.below_end

-- A digit string comes back from its key.
pub digits_back : (ds : List ℕ) → every is_digit ds ≡ true → length ds ≤ 15 → digits_of_key (key ds) ≡ ds
digits_back = key_laws.digits_back

-- Different digit strings have different keys.
pub key_injective :
    (ds es : List ℕ)
    → every is_digit ds ≡ true
    → every is_digit es ≡ true
    → length ds ≤ 15
    → length es ≤ 15
    → key ds ≡ key es
    → ds ≡ es
key_injective = key_laws.key_injective

-- Key order is dictionary order.
pub key_order :
    (ds es : List ℕ)
    → every is_digit ds ≡ true
    → every is_digit es ≡ true
    → length ds ≤ 15
    → length es ≤ 15
    → ltb (key ds) (key es) ≡ precedes ds es
key_order = key_laws.key_order

-- The key of a beginning is the key less its remainder by a power of 11.
pub key_take : (n : ℕ) (ds : List ℕ) → every is_digit ds ≡ true → length ds ≤ 15 → key (take n ds) ≡ prefix_key (key ds) n
key_take = key_laws.key_take
