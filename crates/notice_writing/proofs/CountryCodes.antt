-- The country of an allowed code, as a replacement sends it: exactly a country code, of as many digits as its value tells.
-- Assumes nothing.
use mathlib.Core.Path.{◌≡◌, refl, ap, sym, ◌∙◌, subst}
use mathlib.Core.Bool.{Bool, true, false, false≢true}
use mathlib.Core.List.{List, [], ◌∷◌}
use Prim.Native.Nat.{ℕ, zero, suc, ◌+◌, ◌-◌, ◌*◌, ◌^◌, ◌≤◌, ◌<◌}
use native.Mathlib.Omega.{arith}
use borrow.Author.Tests.{lt-ltb, le-ltb, le-leb, eq-eqb}
use lib.ListN.{length, take, length-take}
use lib.Seq.{length-take-le}
use Rattle.dial_code.specs.Digits.{digits, value, is_number}
use Rattle.dial_code.specs.Key.{digits_of_key}
use Rattle.country_code.specs.CountryCode.{one_digit, two_digits, country_digits, country_of_key}
use Rattle.allowed_code.specs.Code.{is_code, is_code_key}
use Rattle.dial_code.proofs.Tests.{and_left_true}
use Rattle.dial_code.proofs.DigitLaws.{digits_take, value_below, digits_value, number_facts, number_cons, no_digits}
use Rattle.country_code.proofs.CountryLaws.{country_opens, of_digits}
use Rattle.allowed_code.proofs.CodeLaws.{country_test}
use Rattle.allowed_code.proofs.SentBack.{own_digits}
use Rattle.notice_header.specs.HeaderRule.{is_country_code}
use Rattle.notice_writing.specs.Layout.{country_count}
use Rattle.varint.proofs.Links.{yes_case}
use Rattle.notice_header.proofs.Countries.{code_facts, first_some, value_least, test_opens}
use Rattle.std.proofs.Common.{Some}

-- The country code of a digit string by its first digits.
one_digit_law : (a : ℕ) (s : List ℕ) → one_digit a ≡ true → country_digits (a ∷ s) ≡ 1
unfolding country_digits
one_digit_law a [] e = rw e
one_digit_law a (b ∷ s) e = rw e

module _ (a : ℕ) (e : one_digit a ≡ false) where
  short : country_digits (a ∷ []) ≡ 3
  unfolding country_digits
  short = rw e

  two_digits_law : (b : ℕ) (s : List ℕ) → two_digits (a * 10 + b) ≡ true → country_digits (a ∷ b ∷ s) ≡ 2
  unfolding country_digits
  two_digits_law b s t = rw (e, t)

  three_digits : (b : ℕ) (s : List ℕ) → two_digits (a * 10 + b) ≡ false → country_digits (a ∷ b ∷ s) ≡ 3
  unfolding country_digits
  three_digits b s t = rw (e, t)

-- The beginning of a digit string that is its country code has the same country code.
record Cut (ds : List ℕ) : Type 0 where
  least : 1 ≤ country_digits ds
  most : country_digits ds ≤ 3
  same : country_digits (take (country_digits ds) ds) ≡ country_digits ds

cut : (ds : List ℕ) → is_number ds ≡ true → country_digits ds ≤ length ds → Cut ds
cut [] u h = absurd (false≢true (sym no_digits ∙ u))
cut (a ∷ s) u h = go s h (one_digit a) refl
  where
    made : (ds : List ℕ) (n : ℕ) → country_digits ds ≡ n → 1 ≤ n → n ≤ 3 → country_digits (take n ds) ≡ n → Cut ds
    made ds n e l m f =
        record {
          least = omega (arith, e);
          most = omega (arith, e);
          same = ap (λ (k : ℕ). country_digits (take k ds)) e ∙ f ∙ sym e;
        }

    third : (b : ℕ) (r : List ℕ) → country_digits (a ∷ b ∷ r) ≤ length (a ∷ b ∷ r) → one_digit a ≡ false
        → two_digits (a * 10 + b) ≡ false → Cut (a ∷ b ∷ r)
    third b [] l e f = absurd (omega (arith, three_digits a e b [] f))
    third b (c ∷ r) l e f =
        made (a ∷ b ∷ c ∷ r) 3 (three_digits a e b (c ∷ r) f) (omega arith) (omega arith) (three_digits a e b (c ∷ []) f)

    go : (r : List ℕ) → country_digits (a ∷ r) ≤ length (a ∷ r) → (t : Bool) → one_digit a ≡ t → Cut (a ∷ r)
    go r l true e = made (a ∷ r) 1 (one_digit_law a r e) (omega arith) (omega arith) (one_digit_law a [] e)
    go [] l false e = absurd (omega (arith, short a e))
    go (b ∷ r) l false e = on (two_digits (a * 10 + b)) refl
      where
        on : (t : Bool) → two_digits (a * 10 + b) ≡ t → Cut (a ∷ b ∷ r)
        on true f = made (a ∷ b ∷ r) 2 (two_digits_law a e b r f) (omega arith) (omega arith) (two_digits_law a e b [] f)
        on false f = third b r l e f

-- How many digits a value of one, two or three digits without a leading 0 has.
count_of : (n c : ℕ) → 1 ≤ n → n ≤ 3 → 10 ^ (n - 1) ≤ c → c < 10 ^ n → country_count c ≡ n
count_of zero c h l m u = absurd (omega arith)
count_of (suc zero) c h l m u = rw (lt-ltb c 10 u)
count_of (suc (suc zero)) c h l m u = rw (le-ltb c 10 m, lt-ltb c 100 u)
count_of (suc (suc (suc zero))) c h l m u =
    let k : 10 ≤ c = omega arith in
    rw (le-ltb c 10 k, le-ltb c 100 m)
count_of (suc (suc (suc (suc n)))) c h l m u = absurd (omega arith)

-- a beginning of a number is a number
beginning : (n : ℕ) (ds : List ℕ) → is_number ds ≡ true → 1 ≤ n → is_number (take n ds) ≡ true
beginning n [] e h = absurd (false≢true (sym no_digits ∙ e))
beginning zero (d ∷ ds) e h = absurd (omega arith)
beginning (suc n) (d ∷ ds) e h =
    let f = number_facts (d ∷ ds) e in
    number_cons d (take n ds) (first_some d ds e) (digits_take (suc n) (d ∷ ds) f.1) (omega (arith, length-take n ds, f.0))

-- A number of n digits is worth at least its first place.
worth : (n : ℕ) (ds : List ℕ) → is_number ds ≡ true → length ds ≡ n → 10 ^ (n - 1) ≤ value ds
worth n [] e l = absurd (false≢true (sym no_digits ∙ e))
worth n (d ∷ ds) e l =
    let m : length ds ≡ n - 1 = omega arith in
    rw m at (value_least d ds e)

-- A value that a replacement can name: written with its digits it is exactly a country code.
pub record CountryValue (c : ℕ) : Type 0 where
  pub fits : c < 10 ^ country_count c
  pub exact : is_country_code (digits (country_count c) c) ≡ true

of_code : (ds : List ℕ) → is_code ds ≡ true → CountryValue (value (take (country_digits ds) ds))
of_code ds e =
    let p = code_facts ds e in
    let k = cut ds p.0 p.1 in
    let n : ℕ = country_digits ds in
    let es : List ℕ = take n ds in
    let l : length es ≡ n = length-take-le n ds p.1 in
    let b : is_number es ≡ true = beginning n ds p.0 k.least in
    let f = number_facts es b in
    let v : value es < 10 ^ n = rw l at (value_below es f.1) in
    let c : country_count (value es) ≡ n = count_of n (value es) k.least k.most (worth n es b l) v in
    let d : digits n (value es) ≡ es = rw l at (digits_value es f.1) in
    let i : is_code es ≡ true =
    country_test es ∙ and_left_true _ b ∙ le-leb (country_digits es) (length es) (omega (arith, k.same, l)) in
    record {
      fits = rw c v;
      exact = rw (c, d) (test_opens es ∙ and_left_true _ i ∙ eq-eqb _ _ (k.same ∙ sym l));
    }

-- The country of an allowed code is such a value.
pub country_value : (w c : ℕ) → is_code_key w ≡ true → country_of_key w ≡ Some c → CountryValue c
country_value w c e f =
    let ds : List ℕ = digits_of_key w in
    let i : is_code ds ≡ true = (own_digits w e).0 in
    let g : Some (value (take (country_digits ds) ds)) ≡ Some c =
    sym (country_opens ds ∙ yes_case _ _ (le-leb _ _ (code_facts ds i).1)) ∙ sym (of_digits w refl) ∙ f in
    let v : value (take (country_digits ds) ds) ≡ c = cc in
    subst CountryValue v (of_code ds i)
