-- Digit strings, for every length together: a string and its count of digits and value determine each other, and what makes
-- a string a number. Assumes nothing.
use mathlib.Core.Path.{◌≡◌, refl, ap, ap₂, sym, ◌∙◌}
use mathlib.Core.Bool.{true, false}
use mathlib.Core.List.{List, [], ◌∷◌, ◌++◌, map}
use Prim.Native.Nat.{ℕ, zero, suc, ◌+◌, ◌*◌, ◌/◌, ◌%◌, ◌^◌, ◌≤◌, ◌<◌}
use native.Mathlib.Nat.{pow-succ', div-one, div-div-eq-div-mul, mod-eq_of_lt, mul-add-div_right, one-le-pow, mod-one}
use native.Mathlib.Omega.{arith}
use lib.Arith.{digits_div, digits_lt, mod-mul}
use lib.Dec.{lit<}
use lib.ListN.{length, take}
use Rattle.dial_code.specs.Digits.{digits, value, every, is_digit, is_number, is_ascii, digit_of, is_dialled}
use Rattle.std.proofs.lemmas.Bool.{and_parts}
use Rattle.std.proofs.lemmas.Bool.Decides.{nat_tests}

-- a string of digits starts with one, and goes on with a string of digits
pub first_digit : (d : ℕ) (ds : List ℕ) → every is_digit (d ∷ ds) ≡ true → d < 10
first_digit d ds e = grind (arith, nat_tests)

pub rest_digits : (d : ℕ) (ds : List ℕ) → every is_digit (d ∷ ds) ≡ true → every is_digit ds ≡ true
rest_digits d ds e = grind (arith, nat_tests)

-- So does a beginning of it.
pub digits_take : (n : ℕ) (ds : List ℕ) → every is_digit ds ≡ true → every is_digit (take n ds) ≡ true
digits_take zero ds e = refl
digits_take (suc n) [] e = refl
digits_take (suc n) (d ∷ ds) e =
    let ih = digits_take n ds in
    grind (arith, nat_tests)

-- A value written with a count of digits has that many, and they are digits.
pub length_digits : (k v : ℕ) → length (digits k v) ≡ k
unfolding digits
length_digits zero v = refl
length_digits (suc k) v = ap suc (length_digits k v)

pub digits_are : (k v : ℕ) → every is_digit (digits k v) ≡ true
unfolding digits
digits_are zero v = refl
digits_are (suc k) v = let ih = digits_are k v in grind (arith, nat_tests)

pub ten : (k : ℕ) → 0 < 10 ^ k
ten k = one-le-pow k 10 (lit< tt)

-- a value of one place more: its first digit and the rest
split : (k v : ℕ) → v % 10 ^ suc k ≡ (v / 10 ^ k % 10) * 10 ^ k + v % 10 ^ k
split k v = rw (pow-succ' 10 k) (mod-mul v (lit< tt) (ten k))

value_mod : (k v : ℕ) → value (digits k v) ≡ v % 10 ^ k
unfolding digits value
value_mod zero v = sym (mod-one v)
value_mod (suc k) v = rw (length_digits k v, value_mod k v, split k v)

-- A value comes back from its digits.
pub value_digits : (k v : ℕ) → v < 10 ^ k → value (digits k v) ≡ v
value_digits k v h = value_mod k v ∙ mod-eq_of_lt h

-- A string's value is one that so many digits can write.
pub value_below : (ds : List ℕ) → every is_digit ds ≡ true → value ds < 10 ^ length ds
unfolding value
value_below [] e = lit< tt
value_below (d ∷ ds) e =
    rw (pow-succ' 10 (length ds)) (digits_lt (first_digit d ds e) (value_below ds (rest_digits d ds e)))

-- what is behind the count makes no difference
digits_high : (k d v : ℕ) → digits k (d * 10 ^ k + v) ≡ digits k v
unfolding digits
digits_high zero d v = refl
digits_high (suc k) d v =
    let f : d * 10 ^ suc k + v ≡ d * 10 * 10 ^ k + v = rw (pow-succ' 10 k) (omega arith) in
    rw (f, mul-add-div_right (ten k) (d * 10) v, digits_high k (d * 10) v) (ap (λ (x : ℕ). x ∷ digits k v) (omega arith))

-- A digit string comes back from its length and its value.
pub digits_value : (ds : List ℕ) → every is_digit ds ≡ true → digits (length ds) (value ds) ≡ ds
unfolding digits value
digits_value [] e = refl
digits_value (d ∷ ds) e =
    let r = rest_digits d ds e in
    rw (digits_div d (value_below ds r), mod-eq_of_lt (first_digit d ds e), digits_high (length ds) d (value ds), digits_value ds r)

-- The last digit is the value's remainder by ten.
pub digits_last : (k v : ℕ) → digits (suc k) v ≡ digits k (v / 10) ++ (v % 10 ∷ [])
unfolding digits
digits_last zero v = ap (λ (x : ℕ). x % 10 ∷ []) (div-one v)
digits_last (suc k) v =
    let a : v / 10 ^ suc k % 10 ≡ v / 10 / 10 ^ k % 10 =
    ap (λ (x : ℕ). x % 10) (rw (pow-succ' 10 k) (sym (div-div-eq-div-mul v 10 (10 ^ k)))) in
    ap₂ ◌∷◌ a (digits_last k v)

-- What makes a digit string a number, and what a number shows.
pub no_digits : is_number [] ≡ false
unfolding is_number
no_digits = refl

pub zero_first : (ds : List ℕ) → is_number (0 ∷ ds) ≡ false
unfolding is_number
zero_first ds = grind (arith, nat_tests)

pub number_cons : (d : ℕ) (ds : List ℕ) → 0 < d → every is_digit (d ∷ ds) ≡ true → length ds ≤ 14 → is_number (d ∷ ds) ≡ true
unfolding is_number
number_cons d ds p e h = rw e (grind (arith, nat_tests))

pub number_facts : (ds : List ℕ) → is_number ds ≡ true → (length ds ≤ 15) × (every is_digit ds ≡ true)
unfolding is_number
number_facts ds e = grind (arith, nat_tests)

pub dialled_digits :
    (s : List ℕ)
    → is_dialled s ≡ true
    → (length (map digit_of s) ≤ 15) × (every is_digit (map digit_of s) ≡ true)
unfolding is_dialled
dialled_digits s h = number_facts (map digit_of s) (and_parts (every is_ascii s) (is_number (map digit_of s)) h).1

-- ASCII digits stand for digits.
pub ascii_digits : (s : List ℕ) → every is_ascii s ≡ true → every is_digit (map digit_of s) ≡ true
ascii_digits [] e = refl
ascii_digits (b ∷ s) e =
    let ih = ascii_digits s in
    grind (arith, nat_tests)
