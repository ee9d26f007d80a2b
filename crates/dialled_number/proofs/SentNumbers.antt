-- The key of a number sent as a count of digits and a value: a code's key whose first digit is not 0. Assumes nothing.
use Rattle.std.proofs.Common.{◌≡◌, refl, ap, sym, ◌∙◌, Bool, true, false, cond, ◌&&◌, ℕ, ◌*◌, leb, Result, Ok, Err, arith}
use Rattle.std.proofs.lemmas.Bool.Decides.{nat_tests}
use Rattle.refusal.specs.declared.Refusal.{Refusal}
use Rattle.refusal.specs.declared.Refusal.TheVariants.{NotANumber}
use Rattle.dial_code.specs.Digits.{digits, is_written, is_number}
use Rattle.dial_code.specs.Key.{key, first_place, digits_of_key, code_key}
use Rattle.dialled_number.specs.NumberKey.{sent_number_key}
use Rattle.dial_code.proofs.DigitLaws.{number_facts}
use Rattle.dial_code.proofs.KeyLaws.{digits_back}
use Rattle.dial_code.proofs.SentKeys.{code_test, sent_number as is_sent_number}

-- A code's key, if it is a number's, by the test of the code.
abbrev pub numbered : Result ℕ Refusal → Result ℕ Refusal
numbered (Ok k) = cond (leb (2 * first_place) k) (Ok k) (Err NotANumber)
numbered (Err e) = Err NotANumber

module _ (count v : ℕ) where
  pub sent_test :
      sent_number_key count v
      ≡ cond (is_written count v && is_number (digits count v)) (Ok (key (digits count v))) (Err NotANumber)
  unfolding sent_number_key
  sent_test = refl

  pub by_key : sent_number_key count v ≡ numbered (code_key count v)
  by_key =
      let t = sent_test in
      let c = code_test count v in
      let n = is_sent_number count v in
      grind (arith, nat_tests)

  -- What a number's key shows: it is written, its digits are a number, and they and the key determine each other.
  pub record SentNumber (k : ℕ) : Type 0 where
    pub written : is_written count v ≡ true
    pub number : is_number (digits count v) ≡ true
    pub spelled : digits_of_key k ≡ digits count v
    pub keyed : key (digits_of_key k) ≡ k

  pub sent_number : (k : ℕ) → sent_number_key count v ≡ Ok k → SentNumber k
  sent_number k q = go (is_written count v) refl (is_number (digits count v)) refl (sym sent_test ∙ q)
    where
      go : (t : Bool) → is_written count v ≡ t → (u : Bool) → is_number (digits count v) ≡ u
          → cond (t && u) (Ok (key (digits count v))) (Err NotANumber) ≡ Ok k → SentNumber k
      go true w true n r =
          let p : key (digits count v) ≡ k = cc in
          let f = number_facts (digits count v) n in
          let d : digits_of_key k ≡ digits count v = ap digits_of_key (sym p) ∙ digits_back (digits count v) f.1 f.0 in
          record { written = w; number = n; spelled = d; keyed = ap key d ∙ p }
      go true w false n r = cc
      go false w u n r = cc

  -- What has none is not written, or its digits are no number, and it is refused so.
  pub no_sent_number : (e : Refusal) → sent_number_key count v ≡ Err e
      → (is_written count v ≡ true → is_number (digits count v) ≡ false) × (e ≡ NotANumber)
  no_sent_number e q = go (is_written count v) refl (is_number (digits count v)) refl (sym sent_test ∙ q)
    where
      go : (t : Bool) → is_written count v ≡ t → (u : Bool) → is_number (digits count v) ≡ u
          → cond (t && u) (Ok (key (digits count v))) (Err NotANumber) ≡ Err e
          → (is_written count v ≡ true → is_number (digits count v) ≡ false) × (e ≡ NotANumber)
      go true w true n r = cc
      go true w false n r = (λ p. n, cc)
      go false w u n r = (λ p. cc, cc)
