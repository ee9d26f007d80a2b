-- An allowed code comes back from the count of digits and the value that its key is sent as. Assumes nothing.
use mathlib.Core.Path.{◌≡◌, ap, sym, ◌∙◌}
use mathlib.Core.Bool.{true, false≢true}
use mathlib.Core.List.{List, [], ◌∷◌}
use Prim.Native.Nat.{ℕ, ◌^◌, ◌≤◌, ◌<◌}
use native.Mathlib.Nat.{pow-le-pow_right}
use native.Mathlib.Omega.{arith}
use borrow.Author.Tests.{eqb-true}
use lib.Dec.{lit<}
use lib.ListN.{length}
use Rattle.dial_code.specs.Digits.{value, is_number}
use Rattle.dial_code.specs.Key.{key, digits_of_key, code_of, code_key}
use Rattle.dial_code.specs.declared.Code.{Code}
use Rattle.std.proofs.lemmas.Bool.{and_parts}
use Rattle.dial_code.proofs.DigitLaws.{value_below, digits_value, no_digits, number_facts}
use Rattle.dial_code.proofs.CountedKeys.{sent}
use Rattle.dial_code.proofs.KeyCode.{code_opens}
use Rattle.allowed_code.specs.Code.{is_code, is_code_key}
use Rattle.allowed_code.proofs.CodeLaws.{code_test, country_test}
use Rattle.std.proofs.Common.{Ok}

number_some : (ds : List ℕ) → is_number ds ≡ true → 0 < length ds
number_some [] e = absurd (false≢true (sym no_digits ∙ e))
number_some (d ∷ ds) e = omega arith

code_number : (ds : List ℕ) → is_code ds ≡ true → is_number ds ≡ true
code_number ds e = (and_parts _ _ (sym (country_test ds) ∙ e)).0

-- An allowed code comes back from its count of digits and its value.
code_sent : (ds : List ℕ) → is_code ds ≡ true → code_key (length ds) (value ds) ≡ Ok (key ds)
unfolding key
code_sent ds e =
    let n = code_number ds e in
    let f = number_facts ds n in
    sent (length ds) (value ds) (number_some ds n) f.0 (value_below ds f.1)
    ∙ ap (λ (es : List ℕ). Ok (key es)) (digits_value ds f.1)

-- A word that passes the test is the key of its own digits, which are an allowed code.
pub own_digits : (w : ℕ) → is_code_key w ≡ true → (is_code (digits_of_key w) ≡ true) × (key (digits_of_key w) ≡ w)
own_digits w e = let p = and_parts _ _ (sym (code_test w) ∙ e) in (p.1, eqb-true _ _ p.0)

-- The same of its key.
pub key_sent : (w : ℕ) → is_code_key w ≡ true → code_key (code_of w).count (code_of w).value ≡ Ok w
key_sent w e =
    let p = own_digits w e in
    ap (λ (c : Code). code_key c.count c.value) (code_opens w) ∙ code_sent (digits_of_key w) p.0 ∙ ap Ok p.1

-- What an allowed code sends: 1 to 15 digits, and a value of so many.
pub record Sent (w : ℕ) : Type 0 where
  pub count_least : 1 ≤ (code_of w).count
  pub count_most : (code_of w).count ≤ 15
  pub value_most : (code_of w).value < 10 ^ 15
  pub back : code_key (code_of w).count (code_of w).value ≡ Ok w

pub key_sends : (w : ℕ) → is_code_key w ≡ true → Sent w
key_sends w e =
    let ds : List ℕ = digits_of_key w in
    let o = code_opens w in
    let n = code_number ds (own_digits w e).0 in
    let f = number_facts ds n in
    let c : (code_of w).count ≡ length ds = ap (λ (r : Code). r.count) o in
    let v : (code_of w).value ≡ value ds = ap (λ (r : Code). r.value) o in
    let p : 10 ^ length ds ≤ 10 ^ 15 = pow-le-pow_right (lit< tt) {i = length ds} {j = 15} f.0 in
    record {
      count_least = omega (arith, c, number_some ds n);
      count_most = omega (arith, c, f.0);
      value_most = omega (arith, v, value_below ds f.1);
      back = key_sent w e;
    }
