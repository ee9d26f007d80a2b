-- The keys of a range's codes, one after the other: how far each is from the one before, and that they rise. Assumes nothing.
use mathlib.Core.Path.{◌≡◌, refl, ap, sym, subst}
use mathlib.Core.List.{List, [], ◌∷◌, ◌++◌}
use Prim.Native.Nat.{ℕ, zero, suc, ◌+◌, ◌-◌, ◌*◌, ◌/◌, ◌%◌, ◌^◌, ◌≤◌, ◌<◌}
use native.Mathlib.Nat.{pow-suc, one-le-pow}
use native.Mathlib.Omega.{arith}
use lib.Dec.{lit<}
use lib.ListN.{length}
use Rattle.dial_code.specs.Digits.{digits}
use Rattle.dial_code.specs.Key.{key}
use Rattle.dial_code.proofs.Tests.{below, equal, above, order}
use Rattle.dial_code.proofs.CountedKeys.{last_place, next_weight}
use Rattle.code_entry.specs.Range.{codes_from, keys_from, range_keys}
use Rattle.code_entry.specs.declared.CodeRange.{CodeRange}
use Rattle.code_cell.specs.Rising.{Below, Rising}
use Rattle.code_cell.proofs.Inserts.{below_more, below_append, rising_append}

pub range_keys_law : (r : CodeRange) → range_keys r ≡ keys_from r.digits r.first r.count
unfolding range_keys
range_keys_law r = refl

pub length_keys : (k v n : ℕ) → length (keys_from k v n) ≡ n
unfolding codes_from
length_keys k v zero = refl
length_keys k v (suc n) = ap suc (length_keys k (v + 1) n)

pub no_keys : (k v : ℕ) → keys_from k v 0 ≡ []
unfolding codes_from
no_keys k v = refl

pub first_key_law : (k v n : ℕ) → keys_from k v (suc n) ≡ key (digits k v) ∷ keys_from k (v + 1) n
unfolding codes_from
first_key_law k v n = refl

pub last_key_law : (k v n : ℕ) → keys_from k v (suc n) ≡ keys_from k v n ++ (key (digits k (v + n)) ∷ [])
unfolding codes_from
last_key_law k v zero = let f : v + 0 ≡ v = omega arith in rw f
last_key_law k v (suc n) =
    let f : v + 1 + n ≡ v + suc n = omega arith in
    ap (λ (s : List ℕ). key (digits k v) ∷ s) (rw f at (last_key_law k (v + 1) n))

-- The last digit apart.
place : (k v w : ℕ) → 0 < k → w ≡ 11 ^ (15 - k) → key (digits k v) ≡ key (digits (k - 1) (v / 10)) + (v % 10 + 1) * w
unfolding key
place k v w h e = last_place k v w h e

-- A code whose last digit is not 9, and one with a 9: the code after it.
pub no_carry : (k v w : ℕ) → 0 < k → w ≡ 11 ^ (15 - k) → (v % 10 ≡ 9 → ⊥) → key (digits k (v + 1)) ≡ key (digits k v) + w
no_carry k v w h e n =
    let q : (v + 1) / 10 ≡ v / 10 = omega arith in
    let m : (v + 1) % 10 ≡ v % 10 + 1 = omega arith in
    let a : key (digits k (v + 1)) ≡ key (digits (k - 1) (v / 10)) + (v % 10 + 1 + 1) * w = rw (q, m) at (place k (v + 1) w h e) in
    omega (arith, a, place k v w h e)

pub carry :
    (k v w : ℕ)
    → 0 < k
    → w ≡ 11 ^ (15 - k)
    → v % 10 ≡ 9
    → key (digits k (v + 1)) + 9 * w + key (digits (k - 1) (v / 10)) ≡ key (digits k v) + key (digits (k - 1) (v / 10 + 1))
carry k v w h e n =
    let q : (v + 1) / 10 ≡ v / 10 + 1 = omega arith in
    let m : (v + 1) % 10 ≡ 0 = omega arith in
    let a : key (digits k (v + 1)) ≡ key (digits (k - 1) (v / 10 + 1)) + (0 + 1) * w = rw (q, m) at (place k (v + 1) w h e) in
    let b : key (digits k v) ≡ key (digits (k - 1) (v / 10)) + (9 + 1) * w = rw n at (place k v w h e) in
    omega (arith, a, b)

-- There is a place before that of a 9 where the code is not the last of its length.
pub carried : (k v : ℕ) → v + 1 < 10 ^ k → v % 10 ≡ 9 → (1 < k) × (v / 10 + 1 < 10 ^ (k - 1))
carried zero v h n = absurd (omega arith)
carried (suc zero) v h n = absurd (omega arith)
carried (suc (suc k)) v h n =
    let f : suc (suc k) - 1 ≡ suc k = omega arith in
    (omega arith, rw f (omega (arith, rw (pow-suc 10 (suc k)) at h)))

-- The next key is above, by the weight of the last place or more.
pub apart : (k v w : ℕ) → 0 < k → k ≤ 15 → w ≡ 11 ^ (15 - k) → v + 1 < 10 ^ k → key (digits k v) + w ≤ key (digits k (v + 1))
apart zero v w h l e b = absurd (omega arith)
apart (suc k) v w h l e b =
    elim (order (v % 10) 9) [
      | below o ↦ omega (arith, no_carry (suc k) v w h e (λ (x : v % 10 ≡ 9). omega arith))
      | equal o ↦
          let c = carried (suc k) v b o in
          let f : suc k - 1 ≡ k = omega arith in
          let s : key (digits k (v / 10)) + w * 11 ≤ key (digits k (v / 10 + 1)) =
          apart k (v / 10) (w * 11) (omega (arith, c.0)) (omega arith) (rw f at (next_weight (suc k) w h l e)) (rw f at c.1) in
          omega (arith, s, rw f at (carry (suc k) v w h e o))
      | above o ↦ absurd (omega arith)
    ]

pub next_above : (k v : ℕ) → 0 < k → k ≤ 15 → v + 1 < 10 ^ k → key (digits k v) < key (digits k (v + 1))
next_above k v h l b = omega (arith, apart k v (11 ^ (15 - k)) h l refl b, one-le-pow (15 - k) 11 (lit< tt))

-- The keys of a range rise, and are below the key of the code after it.
pub keys_below : (k v n : ℕ) → 0 < k → k ≤ 15 → v + n < 10 ^ k → Below (keys_from k v n) (key (digits k (v + n)))
unfolding codes_from
keys_below k v zero h l b = tt
keys_below k v (suc n) h l b =
    let f : v + n + 1 ≡ v + suc n = omega arith in
    let u : key (digits k (v + n)) < key (digits k (v + suc n)) = rw f at (next_above k (v + n) h l (omega arith)) in
    subst (λ (s : List ℕ). Below s (key (digits k (v + suc n)))) (sym (last_key_law k v n))
    (below_append (keys_from k v n) (key (digits k (v + n))) (key (digits k (v + suc n)))
    (below_more (keys_from k v n) _ _ u (keys_below k v n h l (omega arith))) u)

pub keys_rising : (k v n : ℕ) → 0 < k → k ≤ 15 → v + n ≤ 10 ^ k → Rising (keys_from k v n)
unfolding codes_from
keys_rising k v zero h l b = tt
keys_rising k v (suc n) h l b =
    subst Rising (sym (last_key_law k v n))
    (rising_append (keys_from k v n) (key (digits k (v + n))) (keys_rising k v n h l (omega arith)) (keys_below k v n h l (omega arith)))
