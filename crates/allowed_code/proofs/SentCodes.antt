-- The key of an allowed code sent as a count of digits and a value: a code's key whose first digit is not 0 and which has a
-- country. Assumes nothing.
use Rattle.std.proofs.Common.{◌≡◌, refl, ap, sym, ◌∙◌, Bool, true, false, cond, not, ◌&&◌, ◌||◌, ℕ, ◌*◌, ◌≤◌, leb, ltb, length, Result, Ok, Err, arith}
use Rattle.std.specs.Option.{is_some}
use Rattle.std.proofs.lemmas.Bool.Decides.{nat_tests}
use Rattle.refusal.specs.declared.Refusal.{Refusal}
use Rattle.refusal.specs.declared.Refusal.TheVariants.{CodeNotAllowed, OutOfRange}
use Rattle.refusal.specs.Steps.{◌>>=◌}
use Rattle.dial_code.specs.Digits.{digits, is_written, is_number}
use Rattle.dial_code.specs.Key.{key, first_place, code_key}
use Rattle.country_code.specs.CountryCode.{country_digits, country_of_key}
use Rattle.allowed_code.specs.Code.{is_code, sent_code_key}
use Rattle.dial_code.proofs.DigitLaws.{length_digits, digits_are}
use Rattle.dial_code.proofs.SentKeys.{code_test, few, sent_number}
use Rattle.country_code.proofs.CountryLaws.{country_of_key_law}
use Rattle.allowed_code.proofs.CodeLaws.{has_country, country_test}

-- A code's key, if it is allowed, by the tests of the code.
abbrev pub allowed : ℕ → Result ℕ Refusal
allowed k = cond (ltb k (2 * first_place) || not (is_some (country_of_key k))) (Err CodeNotAllowed) (Ok k)

allowed_by : (k : ℕ) → cond (leb (2 * first_place) k && is_some (country_of_key k)) (Ok k) (Err CodeNotAllowed) ≡ allowed k
allowed_by k = grind (arith, nat_tests)

module _ (count v : ℕ) where
  -- the rule's tests
  pub sent_test :
      sent_code_key count v
      ≡ cond (is_written count v) (cond (is_code (digits count v)) (Ok (key (digits count v))) (Err CodeNotAllowed))
      (Err OutOfRange)
  unfolding sent_code_key
  sent_test = refl

  long_test : is_written count v ≡ true → leb (country_digits (digits count v)) (length (digits count v)) ≡ is_some (country_of_key (key (digits count v)))
  long_test w =
      let l : length (digits count v) ≤ 15 = omega (arith, length_digits count v, few count v w) in
      has_country (digits count v) ∙ ap is_some (sym (country_of_key_law (digits count v) (digits_are count v) l))

  pub by_key : sent_code_key count v ≡ (code_key count v >>= allowed)
  by_key = rw (sent_test, code_test count v, country_test (digits count v)) (go (is_written count v) refl)
    where
      go : (t : Bool) → is_written count v ≡ t
          → cond t (cond (is_number (digits count v) && leb (country_digits (digits count v)) (length (digits count v))) (Ok (key (digits count v))) (Err CodeNotAllowed)) (Err OutOfRange)
          ≡ (cond t (Ok (key (digits count v))) (Err OutOfRange) >>= allowed)
      go true w = rw (sent_number count v w, long_test w) (allowed_by (key (digits count v)))
      go false w = refl
