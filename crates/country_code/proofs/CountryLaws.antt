-- The country of a key from its first three places. Assumes nothing.
use Rattle.std.proofs.Common.{◌≡◌, refl, ap, sym, ◌∙◌, Bool, true, false, cond, List, [], ◌∷◌, ℕ, suc, ◌+◌, ◌-◌, ◌*◌, ◌/◌, ◌%◌, ◌^◌, ◌≤◌, ◌<◌, length, take, eqb, leb, Option, Some, None, inl, inr, arith}
use Rattle.std.proofs.lemmas.Bool.{cases_lt, agree_below_at}
use Rattle.std.proofs.lemmas.Bool.Decides.{nat_tests}
use Rattle.dial_code.specs.Digits.{every, is_digit, value}
use Rattle.dial_code.specs.Key.{key, keys_end, first_place, third_place, places_of, digits_of_key}
use Rattle.country_code.specs.declared.TheConstants.{TWO_DIGITS}
use Rattle.country_code.specs.CountryCode.{runs, within, one_digit, two_digits, country_digits, country, country_of_key}
use Rattle.dial_code.proofs.Places.{beyond, all_places}
use Rattle.dial_code.proofs.KeyLaws.{digits_back}

-- The country of a digit string, by the test of its rule.
pub country_opens : (ds : List ℕ)
    → country ds ≡ cond (leb (country_digits ds) (length ds)) (Some (value (take (country_digits ds) ds))) None
unfolding country
country_opens ds = refl

-- The country of a digit string by its first three digits.
by_third : ℕ → List ℕ → Option ℕ
by_third two [] = None
by_third two (c ∷ s) = Some (two * 10 + c)

by_second : ℕ → List ℕ → Option ℕ
by_second a [] = None
by_second a (b ∷ s) = cond (two_digits (a * 10 + b)) (Some (a * 10 + b)) (by_third (a * 10 + b) s)

by_first : List ℕ → Option ℕ
by_first [] = None
by_first (a ∷ s) = cond (one_digit a) (Some a) (by_second a s)

-- so for any tests of its first one and two digits
module _ (one two : Bool) (a b c : ℕ) (s : List ℕ) where
  one_long : cond (leb (cond one 1 3) 1) (Some (value (take (cond one 1 3) (a ∷ [])))) None ≡ cond one (Some a) None
  unfolding value
  one_long = grind (arith, nat_tests)

  two_long :
      cond (leb (cond one 1 (cond two 2 3)) 2) (Some (value (take (cond one 1 (cond two 2 3)) (a ∷ b ∷ [])))) None
      ≡ cond one (Some a) (cond two (Some (a * 10 + b)) None)
  unfolding value
  two_long = grind (arith, nat_tests)

  three_long :
      cond (leb (cond one 1 (cond two 2 3)) (suc (suc (suc (length s))))) (Some (value (take (cond one 1 (cond two 2 3)) (a ∷ b ∷ c ∷ s)))) None
      ≡ cond one (Some a) (cond two (Some (a * 10 + b)) (Some ((a * 10 + b) * 10 + c)))
  unfolding value
  three_long = grind (arith, nat_tests)

country_law : (ds : List ℕ) → country ds ≡ by_first ds
unfolding country by_first by_second by_third
country_law [] = refl
country_law (a ∷ []) = one_long (one_digit a) true a 0 0 []
country_law (a ∷ b ∷ []) = two_long (one_digit a) (two_digits (a * 10 + b)) a b 0 []
country_law (a ∷ b ∷ c ∷ s) = three_long (one_digit a) (two_digits (a * 10 + b)) a b c s

-- The two-digit country codes as the bits of a number.
pub two_digits_bit : (v : ℕ) → v < 100 → eqb (TWO_DIGITS / 2 ^ v % 2) 1 ≡ two_digits v
unfolding two_digits
two_digits_bit v h = agree_below_at (λ u. eqb (TWO_DIGITS / 2 ^ u % 2) 1) (λ u. within runs u) 100 v refl h

-- A word's country is that of its digits.
pub of_digits : (w : ℕ) {ds : List ℕ} → digits_of_key w ≡ ds → country_of_key w ≡ country ds
unfolding country_of_key
of_digits w e = ap country e

-- The country of a code is that of its key.
pub country_of_key_law : (ds : List ℕ) → every is_digit ds ≡ true → length ds ≤ 15 → country_of_key (key ds) ≡ country ds
unfolding country_of_key
country_of_key_law ds e h = ap country (digits_back ds e h)

-- From the keys' end on a word has no country.
pub no_key : (w : ℕ) → keys_end ≤ w → country_of_key w ≡ None
unfolding country
no_key w h = of_digits w (beyond w h)

-- The country of a key by its first three places, each with the digit and one more, or 0 for none.
abbrev pub by_places : ℕ → ℕ → ℕ → Option ℕ
by_places a b c =
    cond (eqb a 0) None
    (cond (one_digit (a - 1)) (Some (a - 1))
    (cond (eqb b 0) None
    (cond (two_digits ((a - 1) * 10 + (b - 1))) (Some ((a - 1) * 10 + (b - 1)))
    (cond (eqb c 0) None (Some (((a - 1) * 10 + (b - 1)) * 10 + (c - 1)))))))

places_step : (k w : ℕ) → places_of (suc k) w ≡ cond (eqb (w / first_place) 0) [] ((w / first_place - 1) ∷ places_of k (w % first_place * 11))
unfolding places_of
places_step k w = refl

second_place : (w : ℕ) → w / third_place / 11 % 11 ≡ w % first_place * 11 / first_place
second_place w = omega arith

third_place_law : (w : ℕ) → w / third_place % 11 ≡ w % first_place * 11 % first_place * 11 / first_place
third_place_law w = omega arith

first_place_law : (w : ℕ) → w / third_place / 121 ≡ w / first_place
first_place_law w = omega arith

pub by_places_law : (w : ℕ) → w < keys_end → country_of_key w ≡ by_places (w / third_place / 121) (w / third_place / 11 % 11) (w / third_place % 11)
unfolding by_first by_second by_third
by_places_law w h =
    of_digits w (all_places w h) ∙ country_law (places_of 15 w)
    ∙ rw (first_place_law w, second_place w, third_place_law w, places_step 14 w, places_step 13 (w % first_place * 11), places_step 12 (w % first_place * 11 % first_place * 11)) (grind (arith, nat_tests))

-- Keys with the same first three places have the same country.
pub same_country_law : (w v : ℕ) → w / third_place ≡ v / third_place → country_of_key w ≡ country_of_key v
same_country_law w v e =
    elim (cases_lt w keys_end) [
      | inl h ↦
          by_places_law w h
          ∙ ap (λ (p : ℕ). by_places (p / 121) (p / 11 % 11) (p % 11)) e
          ∙ sym (by_places_law v (omega (arith, e)))
      | inr h ↦ no_key w h ∙ sym (no_key v (omega (arith, e)))
    ]

-- A country code has at most three digits.
pub country_most : (ds : List ℕ) → country_digits ds ≤ 3
unfolding country_digits
country_most [] = omega arith
country_most (a ∷ []) = go (one_digit a)
  where
    go : (t : Bool) → cond t 1 3 ≤ 3
    go true = omega arith
    go false = omega arith
country_most (a ∷ b ∷ ds) = go (one_digit a) (two_digits (a * 10 + b))
  where
    go : (t u : Bool) → cond t 1 (cond u 2 3) ≤ 3
    go true u = omega arith
    go false true = omega arith
    go false false = omega arith
