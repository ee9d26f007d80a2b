-- The key of a code sent as a count of digits and a value, one digit at a time from the last. Assumes nothing.
use mathlib.Core.Path.{◌≡◌, refl, ap, sym, ◌∙◌}
use mathlib.Core.List.{List, [], ◌∷◌, ◌++◌}
use Prim.Native.Nat.{ℕ, zero, suc, ◌+◌, ◌-◌, ◌*◌, ◌/◌, ◌%◌, ◌^◌, ◌≤◌, ◌<◌, min}
use native.Mathlib.Nat.{pow-suc, pow-le-pow_right}
use native.Mathlib.Numerals.{add-one}
use native.Mathlib.Nat.{div-one, div-div-eq-div-mul, div-lt_iff_lt-mul, le-div_iff_mul-le}
use native.Mathlib.Omega.{arith}
use borrow.Author.Tests.{lt-leb, le-leb, lt-ltb, le-ltb}
use lib.Dec.{lit<}
use lib.ListN.{length}
use Rattle.dial_code.specs.Digits.{digits}
use Rattle.dial_code.specs.Key.{key_from, key, code_key}
use Rattle.dial_code.proofs.DigitLaws.{ten, length_digits, digits_last, digits_are}
use Rattle.dial_code.proofs.KeyLaws.{key_below, below_end}
use Rattle.refusal.specs.declared.Refusal.TheVariants.{OutOfRange}
use Rattle.std.proofs.Common.{Ok, Err}

key_last : (i d : ℕ) (ds : List ℕ) → key_from i (ds ++ (d ∷ [])) ≡ key_from i ds + (d + 1) * 11 ^ (15 - (i + length ds))
unfolding key_from
key_last i d [] =
    let f : i + 0 ≡ i = omega arith in
    rw f (omega arith)
key_last i d (x ∷ ds) =
    let f : i + 1 + length ds ≡ i + suc (length ds) = omega arith in
    omega (arith, rw f at (key_last (i + 1) d ds))

-- What the last of k digits weighs, and what is left without it.
pub last_place :
    (k v w : ℕ)
    → 0 < k
    → w ≡ 11 ^ (15 - k)
    → key_from 1 (digits k v) ≡ key_from 1 (digits (k - 1) (v / 10)) + (v % 10 + 1) * w
last_place zero v w h e = absurd (omega arith)
last_place (suc k) v w h e =
    let f : suc k - 1 ≡ k = omega arith in
    let g : 1 + k ≡ suc k = omega arith in
    rw (f, e, digits_last k v, key_last 1 (v % 10) (digits k (v / 10)), length_digits k (v / 10), g)

-- The weight of the place before, and the most that a place weighs.
pub next_weight : (k w : ℕ) → 0 < k → k ≤ 15 → w ≡ 11 ^ (15 - k) → w * 11 ≡ 11 ^ (15 - (k - 1))
next_weight k w h l e =
    let f : 15 - (k - 1) ≡ suc (15 - k) = omega arith in
    rw (f, pow-suc, e)

pub weight_most : (k w : ℕ) → 0 < k → w ≡ 11 ^ (15 - k) → w ≤ 11 ^ 14
weight_most k w h e = rw e (pow-le-pow_right (lit< tt) {i = 15 - k} {j = 14} (omega arith))

-- The power of ten of a count that has one.
pub few_tens : (n t : ℕ) → n ≤ 15 → t ≡ 10 ^ min n 15 → t ≡ 10 ^ n
few_tens n t h e =
    let f : min n 15 ≡ n = omega arith in
    e ∙ ap (λ (i : ℕ). 10 ^ i) f

-- The key of a code sent so is below the keys' end.
pub sent_below : (count v : ℕ) → count ≤ 15 → key_from 1 (digits count v) < 11 ^ 15
unfolding key
sent_below count v h = below_end (digits count v) (digits_are count v) (rw (length_digits count v) h)

-- The rule by the tests of the code.
module _ (count v : ℕ) where
  pub no_count : count ≡ 0 → code_key count v ≡ Err OutOfRange
  unfolding code_key
  no_count e = rw (lt-leb 1 count (omega arith))

  pub many : 15 < count → code_key count v ≡ Err OutOfRange
  unfolding code_key
  many h = rw (le-leb 1 count (omega arith), lt-leb count 15 h)

  pub large : 0 < count → count ≤ 15 → 10 ^ count ≤ v → code_key count v ≡ Err OutOfRange
  unfolding code_key
  large p h l = rw (le-leb 1 count p, le-leb count 15 h, le-ltb v (10 ^ count) l)

  pub sent : 0 < count → count ≤ 15 → v < 10 ^ count → code_key count v ≡ Ok (key_from 1 (digits count v))
  unfolding code_key
  sent p h l = rw (le-leb 1 count p, le-leb count 15 h, lt-ltb v (10 ^ count) l)

-- What code_key has weighed after n turns of its loop: the last n digits.
pub record Weighed (count v n key weight rest : ℕ) : Type 0 where
  pub whole : key ≡ key_from (count + 1 - n) (digits n v)
  pub weighs : weight ≡ 11 ^ (15 - (count - n))
  pub left : rest ≡ v / 10 ^ n

pub begins : (count v weight : ℕ) → weight ≡ 11 ^ (15 - count) → Weighed count v 0 0 weight v
unfolding digits key_from
begins count v weight w =
    let f : count - 0 ≡ count = omega arith in
    record { whole = refl; weighs = rw f w; left = sym (div-one v) }

-- One digit more, which has room.
module _ {count v n key weight rest : ℕ} (w : Weighed count v n key weight rest) (l : n < count) (h : count ≤ 15) where
  turn_key : key + (rest % 10 + 1) * weight ≡ key_from (count - n) (digits (n + 1) v)
  unfolding digits key_from
  turn_key =
      let g : count - n + 1 ≡ count + 1 - n = omega arith in
      rw (add-one n, g, ← w.whole, ← w.weighs, ← w.left) (omega arith)

  pub room : key + (rest % 10 + 1) * weight < 11 ^ 15
  room =
      let b : 11 ^ (16 - (count - n)) ≤ 11 ^ 15 = pow-le-pow_right (lit< tt) {i = 16 - (count - n)} {j = 15} (omega arith) in
      let k = key_below (count - n) (digits (n + 1) v) (digits_are (n + 1) v) (omega (arith, length_digits (n + 1) v)) in
      omega (arith, turn_key)

  pub weight_room : weight ≤ 11 ^ 14
  weight_room = weight_most (count - n) weight (omega arith) w.weighs

  pub turn : Weighed count v (n + 1) (key + (rest % 10 + 1) * weight) (weight * 11) (rest / 10)
  turn =
      let f : count + 1 - (n + 1) ≡ count - n = omega arith in
      let g : count - (n + 1) ≡ count - n - 1 = omega arith in
      record {
        whole = rw f turn_key;
        weighs = rw g (next_weight (count - n) weight (omega arith) (omega arith) w.weighs);
        left = rw (add-one n, pow-suc, ← div-div-eq-div-mul) (ap (λ x. x / 10) w.left);
      }

-- All digits of the count are weighed: the value has more where something is left.
module _ {count v n key weight rest : ℕ} (w : Weighed count v n key weight rest) (e : n ≡ count) (p : 0 < count) (h : count ≤ 15) where
  left_over : rest ≡ v / 10 ^ count
  left_over = (rw e at w).left

  pub more_digits : (rest ≡ 0 → ⊥) → code_key count v ≡ Err OutOfRange
  more_digits d =
      let l : 1 ≤ v / 10 ^ count = omega (arith, left_over) in
      large count v p h (omega (arith, (le-div_iff_mul-le (ten count)).0 l))

  pub all_digits : rest ≡ 0 → code_key count v ≡ Ok key
  all_digits z =
      let f : count + 1 - count ≡ 1 = omega arith in
      let l : v / 10 ^ count < 1 = omega (arith, left_over) in
      rw ((rw e at w).whole, f) (sent count v p h (omega (arith, (div-lt_iff_lt-mul (ten count)).0 l)))

pub ruleset weighing = (no_count, many, begins, room, weight_room, more_digits, all_digits)
