-- The value field of a replacement's country: by the key of the code that it is, and worth more than 0. Assumes nothing.
use Rattle.std.proofs.Common.{◌≡◌, refl, Bool, true, false, cond, ◌&&◌, eqb, leb, ltb, lit<, List, [], ◌∷◌, ℕ, ◌^◌, ◌≤◌, ◌<◌, length, take, Ok, Err, inl, inr, arith}
use Rattle.std.proofs.lemmas.Bool.{cases_lt}
use Rattle.std.proofs.lemmas.Bool.Decides.{nat_tests}
use Rattle.std.proofs.Math.Nat.{pow-le-pow_right, mul-le-mul_right, one-le-pow}
use Rattle.std.proofs.Math.Seq.{take_all, length-take-le}
use Rattle.varint.specs.Reading.{read_number}
use Rattle.varint.specs.Ranged.{in_range, read_ranged}
use Rattle.varint.proofs.Ranges.{both_sides}
use Rattle.varint.proofs.Links.{either}
use Rattle.dial_code.specs.Digits.{digits, value, is_number}
use Rattle.dial_code.specs.Key.{key}
use Rattle.country_code.specs.CountryCode.{country_digits, country, country_of_key}
use Rattle.allowed_code.specs.Code.{is_code, sent_code_key}
use Rattle.dial_code.proofs.DigitLaws.{digits_take, value_digits, value_below, number_facts, no_digits, zero_first}
use Rattle.allowed_code.proofs.CodeLaws.{country_test}
use Rattle.country_code.proofs.CountryLaws.{country_opens}
use Rattle.line_code.specs.CodeRule.{is_country}
use Rattle.notice_header.specs.HeaderRule.{is_country_code, country_field, read_country}
use Rattle.line_code.proofs.Codes.{sent_in_range, same_country}
use Rattle.refusal.specs.declared.Refusal.TheVariants.{CodeNotAllowed, OutOfRange}
use Rattle.refusal.specs.Steps.{◌>>=◌, Read, ok_at}

-- An allowed code is a number, and as long as its country code.
pub code_facts : (ds : List ℕ) → is_code ds ≡ true → (is_number ds ≡ true) × (country_digits ds ≤ length ds)
code_facts ds e = let t = country_test ds in (grind (arith, nat_tests), grind (arith, nat_tests))

pub first_some : (d : ℕ) (ds : List ℕ) → is_number (d ∷ ds) ≡ true → 0 < d
first_some d ds e = elim (cases_lt 0 d) [
  | inl h ↦ h
  | inr h ↦ let z : d ≡ 0 = omega arith in let n = zero_first ds in let f = rw z at e in absurd cc
]

-- A number is worth at least its first place.
pub value_least : (d : ℕ) (ds : List ℕ) → is_number (d ∷ ds) ≡ true → 10 ^ length ds ≤ value (d ∷ ds)
unfolding value
value_least d ds e = omega (arith, mul-le-mul_right (10 ^ length ds) (first_some d ds e))

pub value_some : (ds : List ℕ) → is_number ds ≡ true → 0 < value ds
value_some [] e = let n = no_digits in cc
value_some (d ∷ ds) e = omega (arith, value_least d ds e, one-le-pow (length ds) 10 (lit< tt))

-- A shorter beginning of a number is worth less.
shorter : (n : ℕ) (ds : List ℕ) → is_number ds ≡ true → n < length ds → value (take n ds) < value ds
shorter n [] e h = absurd (omega arith)
shorter n (d ∷ ds) e h =
    let b = value_below (take n (d ∷ ds)) (digits_take n (d ∷ ds) (number_facts (d ∷ ds) e).1) in
    let p : 10 ^ n ≤ 10 ^ length ds = pow-le-pow_right (lit< tt) {i = n} {j = length ds} (omega arith) in
    omega (arith, rw (length-take-le n (d ∷ ds) (omega arith)) at b, value_least d ds e)

-- An allowed code lies in the country of its own value exactly where it is no longer than its country code.
country_agrees : (ds : List ℕ) → is_code ds ≡ true → is_country (country ds) (value ds) ≡ eqb (country_digits ds) (length ds)
country_agrees ds e =
    let p = code_facts ds e in
    let o = country_opens ds in
    elim (cases_lt (country_digits ds) (length ds)) [
      | inl h ↦ let s = shorter (country_digits ds) ds p.0 h in rw o (grind (arith, nat_tests))
      | inr h ↦ let s = take_all (country_digits ds) ds h in rw o (grind (arith, nat_tests))
    ]

pub test_opens : (ds : List ℕ) → is_country_code ds ≡ (is_code ds && eqb (country_digits ds) (length ds))
unfolding is_country_code
test_opens ds = refl

-- A replacement's country is not 0.
pub country_some : (count v : ℕ) → v < 10 ^ count → is_country_code (digits count v) ≡ true → 0 < v
country_some count v h e =
    let ds : List ℕ = digits count v in
    let t = test_opens ds in
    let c : is_code ds ≡ true = grind arith in
    rw (value_digits count v h) at (value_some ds (code_facts ds c).0)

-- The value by the key of its code.
pub country_steps : (count v : ℕ) → 1 ≤ count → count ≤ 15 → (at : ℕ)
    → country_field count v at
    ≡ (sent_code_key count v >>= λ k. cond (is_country (country_of_key k) v) (ok_at v at) (Err CodeNotAllowed))
country_steps count v h l at = rw (sent_in_range count v h l, test_opens ds) (go (ltb v (10 ^ count)) refl (is_code ds) refl)
  where
    ds : List ℕ
    ds = digits count v

    go : (t : Bool) → ltb v (10 ^ count) ≡ t → (u : Bool) → is_code ds ≡ u
        → cond t (cond (u && eqb (country_digits ds) (length ds)) (ok_at v at) (Err CodeNotAllowed)) (Err OutOfRange)
        ≡ (cond t (cond u (Ok (key ds)) (Err CodeNotAllowed)) (Err OutOfRange)
        >>= λ k. cond (is_country (country_of_key k) v) (ok_at v at) (Err CodeNotAllowed))
    go true w true c =
        let less : v < 10 ^ count = grind (arith, nat_tests) in
        let agrees : is_country (country ds) v ≡ eqb (country_digits ds) (length ds) =
        rw (value_digits count v less) at (country_agrees ds c) in
        rw (same_country count v h l, agrees)
    go true w false c = refl
    go false w u c = refl

-- The rule by the steps of the code.
pub read_steps : (s : List ℕ) (at : ℕ)
    → read_country s at
    ≡ (in_range (read_number s at) 1 15 >>= λ (n : ℕ × ℕ). read_number s n.1 >>= λ (v : ℕ × ℕ). sent_code_key n.0 v.0
    >>= λ k. cond (is_country (country_of_key k) v.0) (ok_at v.0 v.1) (Err CodeNotAllowed))
unfolding read_country read_ranged
read_steps s at = by_count (read_number s at)
  where
    ruled : ℕ × ℕ → Read ℕ
    ruled n = read_number s n.1 >>= λ (v : ℕ × ℕ). country_field n.0 v.0 v.1

    keyed : ℕ → ℕ × ℕ → Read ℕ
    keyed count v = sent_code_key count v.0 >>= λ k. cond (is_country (country_of_key k) v.0) (ok_at v.0 v.1) (Err CodeNotAllowed)

    read_keyed : ℕ × ℕ → Read ℕ
    read_keyed n = read_number s n.1 >>= keyed n.0

    by_value : (count : ℕ) → (1 ≤ count) × (count ≤ 15) → (value : Read ℕ)
        → (value >>= λ (v : ℕ × ℕ). country_field count v.0 v.1) ≡ (value >>= keyed count)
    by_value count h (Ok (v, end)) = country_steps count v h.0 h.1 end
    by_value count h (Err e) = refl

    Same : Read ℕ → Type 0
    Same count = (count >>= ruled) ≡ (count >>= read_keyed)

    by_count : (count : Read ℕ) → Same (in_range count 1 15)
    by_count (Ok (n, z)) =
        either Same (leb 1 n && leb n 15) _ _ (λ t. by_value n (both_sides 1 15 n t) (read_number s z)) (λ t. refl)
    by_count (Err e) = refl
