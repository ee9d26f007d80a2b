-- The laws of keys, for every length together: a digit string comes back from its key, key order is dictionary order, and a
-- beginning's key is the key less its remainder by a power of 11. Assumes nothing.
use mathlib.Core.Path.{◌≡◌, refl, ap, sym, ◌∙◌}
use mathlib.Core.Bool.{Bool, true, false, cond, ◌&&◌}
use mathlib.Core.List.{List, [], ◌∷◌}
use Prim.Native.Nat.{ℕ, zero, suc, ◌+◌, ◌-◌, ◌*◌, ◌/◌, ◌%◌, ◌^◌, ◌≤◌, ◌<◌}
use native.Mathlib.Nat.{zero-mul, add-zero, pow-suc, pow-succ', one-le-pow, mul-le-mul_right}
use native.Mathlib.Omega.{arith}
use borrow.Author.Tests.{lt-ltb, le-ltb, ne_eqb}
use lib.Arith.{digits_div, digits_mod, digits_lt}
use lib.Pow.{pow-add}
use lib.Dec.{eqb, ltb, lit<}
use lib.ListN.{length, take}
use lib.Seq.{take_all}
use Rattle.dial_code.specs.Digits.{every, is_digit, precedes}
use Rattle.dial_code.specs.Key.{key_from, key, keys_end, first_place, places_of, digits_of_key, prefix_key}
use Rattle.dial_code.proofs.DigitLaws.{first_digit, rest_digits}
use Rattle.std.proofs.Common.{inl, inr}
use Rattle.std.proofs.lemmas.Bool.{cases_lt}
use Rattle.std.proofs.lemmas.Bool.Decides.{nat_tests}

eleven : (k : ℕ) → 0 < 11 ^ k
eleven k = one-le-pow k 11 (lit< tt)

-- The places from i on hold less than the place before them weighs.
pub key_below : (i : ℕ) (ds : List ℕ) → every is_digit ds ≡ true → i + length ds ≤ 16 → key_from i ds < 11 ^ (16 - i)
unfolding key_from
key_below i [] e h = eleven (16 - i)
key_below i (d ∷ ds) e h =
    let f : 16 - i ≡ suc (15 - i) = omega arith in
    let g : 16 - (i + 1) ≡ 15 - i = omega arith in
    let l : key_from (i + 1) ds < 11 ^ (15 - i) = rw g at (key_below (i + 1) ds (rest_digits d ds e) (omega arith)) in
    let s : d + 1 < 11 = omega (arith, first_digit d ds e) in
    rw (f, pow-succ' 11 (15 - i)) (digits_lt s l)

-- Every key is below the keys' end.
pub below_end : (ds : List ℕ) → every is_digit ds ≡ true → length ds ≤ 15 → key ds < keys_end
unfolding key
below_end ds e h = key_below 1 ds e (omega arith)

-- one place further on, a digit string weighs an eleventh
pub key_shift : (i : ℕ) (ds : List ℕ) → i + length ds ≤ 15 → key_from (i + 1) ds * 11 ≡ key_from i ds
unfolding key_from
key_shift i [] h = refl
key_shift i (d ∷ ds) h =
    let f : 15 - i ≡ suc (15 - (i + 1)) = omega arith in
    rw (f, pow-suc) (omega (arith, key_shift (i + 1) ds (omega arith)))

-- The first place of a key, and the key of the digits after the first.
pub key_first : (d : ℕ) (ds : List ℕ) → every is_digit (d ∷ ds) ≡ true → length ds ≤ 14 → key (d ∷ ds) / first_place ≡ d + 1
unfolding key
key_first d ds e h = digits_div (d + 1) (key_below 2 ds (rest_digits d ds e) (omega arith))

key_rest : (d : ℕ) (ds : List ℕ) → every is_digit (d ∷ ds) ≡ true → length ds ≤ 14 → key (d ∷ ds) % first_place * 11 ≡ key ds
unfolding key
key_rest d ds e h =
    ap (λ (x : ℕ). x * 11) (digits_mod (d + 1) (key_below 2 ds (rest_digits d ds e) (omega arith))) ∙ key_shift 1 ds (omega arith)

-- the digits of a key, one place at a time
places_cons :
    (k d : ℕ) (ds : List ℕ)
    → every is_digit (d ∷ ds) ≡ true
    → length ds ≤ 14
    → places_of (suc k) (key (d ∷ ds)) ≡ d ∷ places_of k (key ds)
unfolding places_of
places_cons k d ds e h =
    let f : key (d ∷ ds) / first_place ≡ d + 1 = key_first d ds e h in
    let n : eqb (key (d ∷ ds) / first_place) 0 ≡ false = ne_eqb _ _ (λ (z : key (d ∷ ds) / first_place ≡ 0). omega (arith, f)) in
    rw (n, key_rest d ds e h) (ap (λ (x : ℕ). x ∷ places_of k (key ds)) (omega (arith, f)))

places_back : (k : ℕ) (ds : List ℕ) → every is_digit ds ≡ true → length ds ≤ k → k ≤ 15 → places_of k (key ds) ≡ ds
unfolding places_of key
places_back zero [] e h l = refl
places_back zero (d ∷ ds) e h l = absurd (omega arith)
places_back (suc k) [] e h l = refl
places_back (suc k) (d ∷ ds) e h l =
    places_cons k d ds e (omega arith)
    ∙ ap (λ (x : List ℕ). d ∷ x) (places_back k ds (rest_digits d ds e) (omega arith) (omega arith))

-- A digit string comes back from its key.
pub digits_back : (ds : List ℕ) → every is_digit ds ≡ true → length ds ≤ 15 → digits_of_key (key ds) ≡ ds
unfolding digits_of_key
digits_back ds e h =
    let l : key ds < keys_end = below_end ds e h in
    rw (lt-ltb _ _ l) (places_back 15 ds e h (omega arith))

-- Different digit strings have different keys.
pub key_injective :
    (ds es : List ℕ)
    → every is_digit ds ≡ true
    → every is_digit es ≡ true
    → length ds ≤ 15
    → length es ≤ 15
    → key ds ≡ key es
    → ds ≡ es
key_injective ds es d e h l p = sym (digits_back ds d h) ∙ ap digits_of_key p ∙ digits_back es e l

-- two numbers of a high and a low part compare by the high parts first
by_parts :
    (x y weight a b : ℕ)
    → a < weight
    → b < weight
    → ltb ((x + 1) * weight + a) ((y + 1) * weight + b) ≡ cond (ltb x y) true (eqb x y && ltb a b)
by_parts x y weight a b p q =
    let f : x < y → (x + 1) * weight + weight ≤ (y + 1) * weight = λ l. omega (arith, mul-le-mul_right weight l) in
    let g : y < x → (y + 1) * weight + weight ≤ (x + 1) * weight = λ l. omega (arith, mul-le-mul_right weight l) in
    let e : x ≡ y → (x + 1) * weight ≡ (y + 1) * weight = ap (λ (z : ℕ). (z + 1) * weight) in
    grind (arith, nat_tests)

order_from :
    (i : ℕ) (ds es : List ℕ)
    → every is_digit ds ≡ true
    → every is_digit es ≡ true
    → i + length ds ≤ 16
    → i + length es ≤ 16
    → ltb (key_from i ds) (key_from i es) ≡ precedes ds es
unfolding key_from precedes
order_from i [] [] d e h l = refl
order_from i [] (y ∷ es) d e h l =
    lt-ltb 0 ((y + 1) * 11 ^ (15 - i) + key_from (i + 1) es) (omega (arith, eleven (15 - i)))
order_from i (x ∷ ds) [] d e h l = le-ltb ((x + 1) * 11 ^ (15 - i) + key_from (i + 1) ds) 0 (omega arith)
order_from i (x ∷ ds) (y ∷ es) d e h l =
    let f : 16 - (i + 1) ≡ 15 - i = omega arith in
    let p : key_from (i + 1) ds < 11 ^ (15 - i) = rw f at (key_below (i + 1) ds (rest_digits x ds d) (omega arith)) in
    let q : key_from (i + 1) es < 11 ^ (15 - i) = rw f at (key_below (i + 1) es (rest_digits y es e) (omega arith)) in
    by_parts x y (11 ^ (15 - i)) (key_from (i + 1) ds) (key_from (i + 1) es) p q
    ∙ ap (λ (t : Bool). cond (ltb x y) true (eqb x y && t))
    (order_from (i + 1) ds es (rest_digits x ds d) (rest_digits y es e) (omega arith) (omega arith))

-- Key order is dictionary order.
pub key_order :
    (ds es : List ℕ)
    → every is_digit ds ≡ true
    → every is_digit es ≡ true
    → length ds ≤ 15
    → length es ≤ 15
    → ltb (key ds) (key es) ≡ precedes ds es
unfolding key
key_order ds es d e h l = order_from 1 ds es d e (omega arith) (omega arith)

-- A key in two parts: what its first n digits weigh, a multiple of the weight of the n-th place, and what the others do, less
-- than that.
record Parts (i n : ℕ) (ds : List ℕ) : Type 0 where
  count : ℕ
  low : ℕ
  weighs : key_from i (take n ds) ≡ count * 11 ^ (16 - (i + n))
  whole : key_from i ds ≡ key_from i (take n ds) + low
  less : low < 11 ^ (16 - (i + n))

parts : (i n : ℕ) (ds : List ℕ) → every is_digit ds ≡ true → i + length ds ≤ 16 → i + n ≤ 16 → Parts i n ds
unfolding key_from
parts i zero ds e h l =
    record {
      count = 0;
      low = key_from i ds;
      weighs = sym (zero-mul _);
      whole = omega arith;
      less = rw add-zero (key_below i ds e h);
    }
parts i (suc n) [] e h l = record { count = 0; low = 0; weighs = sym (zero-mul _); whole = refl; less = eleven _ }
parts i (suc n) (d ∷ ds) e h l =
    let r = parts (i + 1) n ds (rest_digits d ds e) (omega arith) (omega arith) in
    let f : i + 1 + n ≡ i + suc n = omega arith in
    let g : 15 - i ≡ n + (16 - (i + suc n)) = omega arith in
    let w : key_from (i + 1) (take n ds) ≡ r.count * 11 ^ (16 - (i + suc n)) = rw f at r.weighs in
    record {
      count = (d + 1) * 11 ^ n + r.count;
      low = r.low;
      weighs = rw (g, pow-add) (omega (arith, w));
      whole = omega (arith, r.whole);
      less = rw f at r.less;
    }

-- The key of a beginning is the key less its remainder by a power of 11.
pub key_take : (n : ℕ) (ds : List ℕ) → every is_digit ds ≡ true → length ds ≤ 15 → key (take n ds) ≡ prefix_key (key ds) n
unfolding key prefix_key
key_take n ds e h = elim (cases_lt n 16) [ inl l ↦ within l | inr l ↦ beyond l ]
  where
    within : n < 16 → key_from 1 (take n ds) ≡ key_from 1 ds - key_from 1 ds % 11 ^ (15 - n)
    within l =
        let r = parts 1 n ds e (omega arith) (omega arith) in
        let f : 16 - (1 + n) ≡ 15 - n = omega arith in
        let low : r.low < 11 ^ (15 - n) = rw f at r.less in
        let w : key_from 1 ds ≡ r.count * 11 ^ (15 - n) + r.low = r.whole ∙ ap (λ (z : ℕ). z + r.low) (rw f at r.weighs) in
        let m : key_from 1 ds % 11 ^ (15 - n) ≡ r.low = ap (λ (z : ℕ). z % 11 ^ (15 - n)) w ∙ digits_mod r.count low in
        omega (arith, m, r.whole)

    beyond : 15 < n → key_from 1 (take n ds) ≡ key_from 1 ds - key_from 1 ds % 11 ^ (15 - n)
    beyond l =
        let f : 15 - n ≡ 0 = omega arith in
        rw (take_all n ds (omega arith), f) (omega arith)

-- A prefix of all the places is the word itself.
pub whole : (w n : ℕ) → 15 ≤ n → prefix_key w n ≡ w
unfolding prefix_key
whole w n h =
    let f : 15 - n ≡ 0 = omega arith in
    rw f (omega arith)
