-- The key of a code sent as a count of digits and a value, and whether it shows that the first digit is not 0. Assumes nothing.
use Rattle.std.proofs.Common.{◌≡◌, refl, sym, ◌∙◌, true, cond, List, [], ◌∷◌, ℕ, ◌*◌, ◌≤◌, leb, length, Ok, Err, inl, inr, arith}
use Rattle.std.proofs.lemmas.Bool.{cases_eq, le-leb, lt-leb}
use Rattle.std.proofs.lemmas.Bool.Decides.{nat_tests}
use Rattle.dial_code.specs.Digits.{every, is_digit, digits, is_written, is_number}
use Rattle.dial_code.specs.Key.{key, first_place, code_key}
use Rattle.dial_code.proofs.DigitLaws.{length_digits, digits_are, no_digits, zero_first, number_cons}
use Rattle.dial_code.proofs.KeyLaws.{key_first}
use Rattle.refusal.specs.declared.Refusal.TheVariants.{OutOfRange}

-- A string of at most 15 digits is a number where its key shows that its first digit is not 0.
pub number_by_key :
    (ds : List ℕ) → every is_digit ds ≡ true → length ds ≤ 15 → is_number ds ≡ leb (2 * first_place) (key ds)
unfolding key
number_by_key [] e h = no_digits
number_by_key (d ∷ ds) e h =
    let f = key_first d ds e (omega arith) in
    elim (cases_eq d 0) [
      | inl z ↦ rw (z, zero_first ds) (sym (lt-leb (2 * first_place) _ (omega arith)))
      | inr n ↦ number_cons d ds (omega arith) e (omega arith) ∙ sym (le-leb (2 * first_place) _ (omega arith))
    ]

module _ (count v : ℕ) where
  -- A code's key, or that it has none, by the test of its rule.
  pub code_test : code_key count v ≡ cond (is_written count v) (Ok (key (digits count v))) (Err OutOfRange)
  unfolding code_key
  code_test = refl

  -- What is written has at most 15 digits, and is a number by its key.
  pub few : is_written count v ≡ true → count ≤ 15
  unfolding is_written
  few w = grind (arith, nat_tests)

  pub sent_number : is_written count v ≡ true → is_number (digits count v) ≡ leb (2 * first_place) (key (digits count v))
  sent_number w = number_by_key (digits count v) (digits_are count v) (omega (arith, length_digits count v, few w))
