-- The key of a number given as ASCII digits: the model of number_key's loop, one byte at a time, and that it is the rule.
-- Assumes nothing.
use Rattle.std.proofs.Common.{◌≡◌, refl, ap, ◌∙◌, Bool, true, cond, not, ◌&&◌, List, [], ◌∷◌, map, ℕ, suc, ◌+◌, ◌-◌, ◌*◌, ◌^◌, ◌≤◌, ◌<◌, eqb, leb, length, get_or, drop, drop-cons, Result, Ok, Err, add-one, lit<, arith}
use Rattle.std.proofs.Math.ListN.{length-map, drop_of_length-le}
use Rattle.std.proofs.Math.Nat.{pow-suc, pow-le-pow_right, one-le-pow, mul-le-mul_right}
use Rattle.std.proofs.Math.Pow.{pow-add}
use Rattle.std.proofs.lemmas.Bool.{and_parts, leb-true}
use Rattle.std.proofs.lemmas.Bool.Decides.{nat_tests}
use Rattle.refusal.specs.declared.Refusal.{Refusal}
use Rattle.refusal.specs.declared.Refusal.TheVariants.{NotANumber}
use Rattle.dial_code.specs.Digits.{every, is_ascii, digit_of, is_number, is_dialled}
use Rattle.dial_code.specs.Key.{key_from, key}
use Rattle.dial_code.proofs.DigitLaws.{ascii_digits}
use Rattle.dialled_number.specs.NumberKey.{number_key}

-- The rule from the i-th byte on, with the places of the bytes before it read as one number.
unfoldable pub spelled_from : ℕ → ℕ → List ℕ → Result ℕ Refusal
spelled_from i k s =
    cond (every is_ascii (drop i s)) (Ok (k * 11 ^ (15 - i) + key_from (i + 1) (map digit_of (drop i s)))) (Err NotANumber)

-- Past the first tests only a byte that is no digit is left to find.
number_by_byte : (b : ℕ) (s : List ℕ) → every is_ascii (b ∷ s) ≡ true
    → is_number (map digit_of (b ∷ s)) ≡ (leb (suc (length s)) 15 && not (eqb b 48))
unfolding is_number
number_by_byte b s e =
    let d = ascii_digits (b ∷ s) e in
    let p = and_parts (is_ascii b) (every is_ascii s) e in
    rw (length-map s digit_of, d) (grind (arith, nat_tests))

first_byte : (b : ℕ) (s : List ℕ) → number_key (b ∷ s)
    ≡ cond (leb 1 (suc (length s)) && leb (suc (length s)) 15 && not (eqb b 48)) (spelled_from 0 0 (b ∷ s)) (Err NotANumber)
unfolding number_key is_dialled spelled_from key
first_byte b s = let n = number_by_byte b s in grind (arith, nat_tests)

pub number_test : (s : List ℕ) → number_key s
    ≡ cond (leb 1 (length s) && leb (length s) 15 && not (eqb (get_or s 0 0) 48)) (spelled_from 0 0 s) (Err NotANumber)
unfolding number_key is_dialled is_number
number_test [] = refl
number_test (b ∷ s) = first_byte b s

nested : (p q : Bool) {x y : ℕ} → x ≡ y → cond (p && q) (Ok x) (Err NotANumber) ≡ cond p (cond q (Ok y) (Err NotANumber)) (Err NotANumber)
nested p q e = grind arith

-- One byte.
pub read_one : (i k : ℕ) (s : List ℕ) → i < length s → i < 15
    → spelled_from i k s ≡ cond (is_ascii (get_or s i 0)) (spelled_from (i + 1) (k * 11 + (get_or s i 0 - 48) + 1) s) (Err NotANumber)
unfolding spelled_from key_from
read_one i k s h l =
    let f : 15 - i ≡ suc (15 - (i + 1)) = omega arith in
    rw (drop-cons s i 0 h, f, pow-suc 11 (15 - (i + 1)), add-one i) (nested _ _ (omega arith))

pub all_read : (i k : ℕ) (s : List ℕ) → length s ≤ i → spelled_from i k s ≡ Ok (k * 11 ^ (15 - i))
unfolding spelled_from key_from
all_read i k s h = rw (drop_of_length-le s h) (ap Ok (omega arith))

-- number_key's loop after i bytes: the rule from the next on is that of the whole.
pub record Spelled (s : List ℕ) (i k : ℕ) : Type 0 where
  pub whole : number_key s ≡ spelled_from i k s
  pub small : k < 11 ^ i

module _ {s : List ℕ} {i k : ℕ} (r : Spelled s i k) where
  -- Room for a digit more, and for the places after the last.
  pub room : i < 15 → k * 11 + 10 < 11 ^ 15
  room l =
      let p : 11 ^ i ≤ 11 ^ 14 = pow-le-pow_right (lit< tt) {i = i} {j = 14} (omega arith) in
      omega (arith, r.small)

  pub places_room : i ≤ 15 → k * 11 ^ (15 - i) < 11 ^ 15
  places_room l =
      let f : i + (15 - i) ≡ 15 = omega arith in
      let p : 11 ^ 15 ≡ 11 ^ i * 11 ^ (15 - i) = rw f at (pow-add 11 i (15 - i)) in
      omega (arith, mul-le-mul_right (11 ^ (15 - i)) r.small, one-le-pow (15 - i) 11 (lit< tt))

  pub turn : i < length s → i < 15 → is_ascii (get_or s i 0) ≡ true → Spelled s (i + 1) (k * 11 + (get_or s i 0 - 48) + 1)
  turn h l e =
      let b = and_parts (leb 48 (get_or s i 0)) (leb (get_or s i 0) 57) e in
      let d : get_or s i 0 ≤ 57 = leb-true _ _ b.1 in
      record {
        whole = r.whole ∙ rw (read_one i k s h l, e);
        small = rw (add-one i, pow-suc 11 i) (omega (arith, r.small));
      }

pub ruleset spelling = (nat_tests, number_test, read_one, all_read, room, places_room, turn)
