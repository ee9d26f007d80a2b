-- The value field of a code, by the key of the allowed code that it is. Assumes nothing.
use Rattle.std.proofs.Common.{◌≡◌, refl, ap, sym, ◌∙◌, Bool, true, false, cond, ltb, List, ℕ, ◌^◌, ◌≤◌, length, Option, Ok, Err, arith}
use Rattle.std.proofs.lemmas.Bool.{le-leb, eq-eqb}
use Rattle.std.proofs.lemmas.Bool.Decides.{nat_tests}
use Rattle.dial_code.specs.Digits.{every, is_digit, digits, is_written}
use Rattle.dial_code.specs.Key.{key, code_key}
use Rattle.country_code.specs.CountryCode.{country, country_of_key}
use Rattle.allowed_code.specs.Code.{is_code, is_code_key, sent_code_key}
use Rattle.dial_code.proofs.DigitLaws.{length_digits, digits_are}
use Rattle.dial_code.proofs.KeyLaws.{digits_back}
use Rattle.country_code.proofs.CountryLaws.{country_of_key_law}
use Rattle.allowed_code.proofs.CodeLaws.{code_test, key_test as word_test}
use Rattle.allowed_code.proofs.SentCodes.{sent_test, by_key}
use Rattle.line_code.specs.CodeRule.{lies_in, code_field}
use Rattle.refusal.specs.declared.Refusal.TheVariants.{CodeNotAllowed, KeysNotRising, OutOfRange, OutsideCountry}
use Rattle.refusal.specs.Steps.{◌>>=◌, Read, ok_at}

-- A digit string is an allowed code exactly where its key is the key of one.
pub key_test : (ds : List ℕ) → every is_digit ds ≡ true → length ds ≤ 15 → is_code_key (key ds) ≡ is_code ds
key_test ds e h = code_test (key ds) ∙ rw (digits_back ds e h, eq-eqb (key ds) (key ds) refl)

-- The key of an allowed code is sent.
pub key_sent : (count v k : ℕ) → code_key count v ≡ Ok k → is_code_key k ≡ true → sent_code_key count v ≡ Ok k
key_sent count v k e a = let t = word_test k in by_key count v ∙ rw e (grind (arith, nat_tests))

module _ (count v : ℕ) (h : 1 ≤ count) (l : count ≤ 15) where
  -- The country of the digits, by their key.
  pub same_country : country_of_key (key (digits count v)) ≡ country (digits count v)
  same_country = country_of_key_law (digits count v) (digits_are count v) (rw (length_digits count v) l)

  -- What is sent after a digit count in range is the key of a code, or refused.
  pub sent_in_range : sent_code_key count v
      ≡ cond (ltb v (10 ^ count)) (cond (is_code (digits count v)) (Ok (key (digits count v))) (Err CodeNotAllowed)) (Err OutOfRange)
  unfolding is_written
  sent_in_range = rw (sent_test count v, le-leb 1 count h, le-leb count 15 l)

  -- The rule by the steps of the code.
  pub code_steps : (named : Option ℕ) (before at : ℕ)
      → code_field named before count v at
      ≡ (sent_code_key count v
      >>= λ k. cond (ltb before k) (cond (lies_in (country_of_key k) named) (ok_at k at) (Err OutsideCountry)) (Err KeysNotRising))
  unfolding code_field
  code_steps named before at = rw sent_in_range (go (ltb v (10 ^ count)) (is_code (digits count v)))
    where
      rises : Option ℕ → Read ℕ
      rises c =
          let k = key (digits count v) in
          cond (ltb before k) (cond (lies_in c named) (ok_at k at) (Err OutsideCountry)) (Err KeysNotRising)

      go : (t u : Bool) → cond t (cond u (rises (country (digits count v))) (Err CodeNotAllowed)) (Err OutOfRange)
          ≡ (cond t (cond u (Ok (key (digits count v))) (Err CodeNotAllowed)) (Err OutOfRange)
          >>= λ k. cond (ltb before k) (cond (lies_in (country_of_key k) named) (ok_at k at) (Err OutsideCountry)) (Err KeysNotRising))
      go true true = ap rises (sym same_country)
      go true false = refl
      go false u = refl
