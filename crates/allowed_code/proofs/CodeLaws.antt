-- Which words are keys of allowed codes, by the tests of the code, and that such a word and its code determine each other.
-- Assumes nothing.
use Rattle.std.proofs.Common.{◌≡◌, refl, ap, sym, ◌∙◌, true, false, ◌&&◌, List, ◌∷◌, ℕ, ◌-◌, ◌*◌, ◌/◌, ◌%◌, ◌≤◌, ◌<◌, eqb, leb, ltb, length, None, inl, inr, arith}
use Rattle.std.specs.Option.{is_some}
use Rattle.std.proofs.lemmas.Bool.{and_parts, cases_lt, cases_eq, eqb-true, eq-eqb, ne_eqb}
use Rattle.std.proofs.lemmas.Bool.Decides.{nat_tests}
use Rattle.dial_code.specs.Digits.{is_number}
use Rattle.dial_code.specs.Key.{key, keys_end, first_place, third_place, places_of, digits_of_key, is_gapless}
use Rattle.country_code.specs.CountryCode.{country_digits, country, country_of_key}
use Rattle.country_code.specs.Stretches.{same_places}
use Rattle.allowed_code.specs.Code.{is_code, is_code_key, is_code_key_after}
use Rattle.dial_code.proofs.DigitLaws.{no_digits, zero_first, number_cons, number_facts}
use Rattle.dial_code.proofs.KeyLaws.{digits_back}
use Rattle.dial_code.proofs.Places.{places_none, places_some, beyond, all_places, length_places, digits_places}
use Rattle.country_code.proofs.CountryLaws.{of_digits, same_country_law}

-- a string has a country where it is as long as its country code
pub has_country : (ds : List ℕ) → leb (country_digits ds) (length ds) ≡ is_some (country ds)
unfolding country
has_country ds = grind arith

-- The rules' tests, taken apart one at a time.
pub code_test : (w : ℕ) → is_code_key w ≡ (eqb (key (digits_of_key w)) w && is_code (digits_of_key w))
unfolding is_code_key
code_test w = refl

pub country_test : (ds : List ℕ) → is_code ds ≡ (is_number ds && leb (country_digits ds) (length ds))
unfolding is_code
country_test ds = refl

-- The digits of a word are a number where its first place holds one that is not 0.
first_of : (w : ℕ) → w < keys_end → first_place ≤ w → digits_of_key w ≡ (w / first_place - 1) ∷ places_of 14 (w % first_place * 11)
first_of w h l = all_places w h ∙ places_some 14 w (omega arith)

number_test : (w : ℕ) → is_number (digits_of_key w) ≡ (leb (2 * first_place) w && ltb w keys_end)
number_test w =
    elim (cases_lt w keys_end) [
      | inl h ↦
          elim (cases_lt w first_place) [
            | inl l ↦ ap is_number (all_places w h ∙ places_none 14 w (omega arith)) ∙ no_digits ∙ grind (arith, nat_tests)
            | inr l ↦
                let f = first_of w h l in
                elim (cases_lt w (2 * first_place)) [
                  | inl m ↦
                      let o : w / first_place - 1 ≡ 0 = omega arith in
                      ap is_number f ∙ rw (o, zero_first) (grind (arith, nat_tests))
                  | inr m ↦
                      let d = digits_places 15 w h in
                      ap is_number f
                      ∙ number_cons _ _ (omega arith) (rw (sym (all_places w h) ∙ f) at d) (length_places 14 (w % first_place * 11))
                      ∙ grind (arith, nat_tests)
                ]
          ]
      | inr h ↦ ap is_number (beyond w h) ∙ no_digits ∙ grind (arith, nat_tests)
    ]

gapless_test : (w : ℕ) → w < keys_end → eqb (key (digits_of_key w)) w ≡ is_gapless 15 w
unfolding is_gapless
gapless_test w h = ap (λ (ds : List ℕ). eqb (key ds) w) (all_places w h)

-- Whether a word is the key of an allowed code, by the tests of the code.
pub key_test :
    (w : ℕ) → is_code_key w ≡ (leb (2 * first_place) w && ltb w keys_end && is_some (country_of_key w) && is_gapless 15 w)
key_test w =
    let t = code_test w in
    let d = country_test (digits_of_key w) in
    let n = number_test w in
    let c = has_country (digits_of_key w) in
    let o = of_digits w refl in
    let g = gapless_test w in
    grind (arith, nat_tests)

pub beyond_keys : (w : ℕ) → keys_end ≤ w → is_code_key w ≡ false
beyond_keys w h = grind (arith, nat_tests, key_test)

pub no_first_digit : (w : ℕ) → w < 2 * first_place → is_code_key w ≡ false
no_first_digit w h = grind (arith, nat_tests, key_test)

pub without_country : (w : ℕ) → country_of_key w ≡ None → is_code_key w ≡ false
without_country w e = grind (arith, nat_tests, key_test)

-- After the key of an allowed code a word is told rightly: with its first three places the word has its country.
alike : (k w : ℕ) → is_code_key k ≡ true → k / third_place ≡ w / third_place → is_code_key w ≡ is_gapless 15 w
alike k w t e =
    let p = sym (key_test k) ∙ t in
    let q = key_test w in
    let c = same_country_law k w e in
    grind (arith, nat_tests)

pub after_code : (k w : ℕ) → is_code_key k ≡ true → is_code_key_after k w ≡ is_code_key w
unfolding is_code_key_after same_places
after_code k w t = elim (cases_eq (k / third_place) (w / third_place)) [
  | inl e ↦ rw (eq-eqb (k / third_place) (w / third_place) e, alike k w t e)
  | inr n ↦ rw (ne_eqb (k / third_place) (w / third_place) n)
]

-- An allowed code comes back from its key.
pub code_back : (ds : List ℕ) → is_code ds ≡ true → digits_of_key (key ds) ≡ ds
code_back ds e =
    let n = number_facts ds (and_parts _ _ (sym (country_test ds) ∙ e)).0 in
    digits_back ds n.1 n.0

-- A word passes the test exactly where it is the key of an allowed code.
pub code_keyed : (ds : List ℕ) → is_code ds ≡ true → is_code_key (key ds) ≡ true
code_keyed ds e =
    let b : digits_of_key (key ds) ≡ ds = code_back ds e in
    code_test (key ds) ∙ rw (b, eq-eqb (key ds) (key ds) refl) e

pub keyed_code : (w : ℕ) → is_code_key w ≡ true → (ds : List ℕ) × (is_code ds ≡ true) × (key ds ≡ w)
keyed_code w e =
    let p = and_parts _ _ (sym (code_test w) ∙ e) in
    (digits_of_key w, p.1, eqb-true _ _ p.0)
