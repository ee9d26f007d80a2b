-- All codes of a range, and what a range between two codes is. Assumes nothing.
use mathlib.Core.Path.{◌≡◌, refl, ap, sym, ◌∙◌}
use mathlib.Core.Bool.{true, false, cond, ◌&&◌}
use Prim.Native.Nat.{ℕ, zero, suc, ◌+◌, ◌-◌, ◌^◌, ◌≤◌, ◌<◌}
use native.Mathlib.Nat.{pow-le-pow_right}
use native.Mathlib.Omega.{arith}
use borrow.Author.Tests.{le-leb, lt-leb, eq-eqb, ne_eqb, leb-true}
use lib.Dec.{eqb, leb, lit<}
use Rattle.dial_code.specs.Digits.{digits}
use Rattle.allowed_code.specs.Code.{is_code, sent_code_key}
use Rattle.dial_code.proofs.DigitLaws.{length_digits, value_digits}
use Rattle.dial_code.proofs.Tests.{and_left_true, and_right_false}
use Rattle.code_entry.specs.Range.{range_of, codes_from, range_codes}
use Rattle.code_entry.specs.Entry.{all_codes, whole_range, code_range}
use Rattle.code_entry.specs.Codes.{Writable}
use Rattle.code_entry.proofs.CodeTests.{code_facts, code_some, by_first, sent_law}
use Rattle.refusal.specs.declared.Refusal.TheVariants.{EntryNotAllowed, RangeNotAllowed}
use Rattle.std.proofs.Common.{Ok, Err, ◌⊎◌, ◌≢◌, inl, inr}
use Rattle.std.specs.List.{list_all, range_with_len}
use Rattle.std.specs.Result.{is_ok}

-- Of at most 15 digits, all codes of a stretch of values are allowed where each has a key as one that is sent.
pub short_codes : (k v n : ℕ) → k ≤ 15 → v + n ≤ 10 ^ k
    → list_all (λ u. is_ok (sent_code_key k u)) (range_with_len v n) ≡ all_codes (codes_from k v n)
unfolding codes_from
short_codes k v zero m h = refl
short_codes k v (suc n) m h = rw (sent_law k v m (omega arith), short_codes k (v + 1) n m (omega arith))

-- From three digits on, all codes from an allowed one on are allowed.
all_long : (k v n : ℕ) → 3 ≤ k → k ≤ 15 → 10 ^ (k - 1) ≤ v → v + n ≤ 10 ^ k → all_codes (codes_from k v n) ≡ true
unfolding codes_from
all_long k v zero p m l h = refl
all_long k v (suc n) p m l h =
    and_left_true _ (by_first k v p m (omega arith) ∙ le-leb _ _ l) ∙ all_long k (v + 1) n p m (omega arith) (omega arith)

pub long_codes : (k v n : ℕ) → 3 ≤ k → is_code (digits k v) ≡ true → v + n ≤ 10 ^ k → all_codes (codes_from k v n) ≡ true
unfolding codes_from
long_codes k v zero p e h = refl
long_codes k v (suc n) p e h =
    let m : k ≤ 15 = omega (arith, length_digits k v, (code_facts (digits k v) e).0) in
    all_long k v (suc n) p m (leb-true (10 ^ (k - 1)) v (sym (by_first k v p m (omega arith)) ∙ e)) h

-- A range by the tests of its rule.
module _ (k v n : ℕ) where
  pub some_not_allowed : all_codes (codes_from k v n) ≡ false → whole_range (range_of k v n) ≡ Err EntryNotAllowed
  unfolding whole_range range_codes
  some_not_allowed e = rw e

  pub too_many : all_codes (codes_from k v n) ≡ true → 1000 < n → whole_range (range_of k v n) ≡ Err RangeNotAllowed
  unfolding whole_range range_codes
  too_many e h = rw (e, lt-leb n 1000 h)

  pub all_named : all_codes (codes_from k v n) ≡ true → n ≤ 1000 → whole_range (range_of k v n) ≡ Ok (range_of k v n)
  unfolding whole_range range_codes
  all_named e h = rw (e, le-leb n 1000 h)

-- Two codes as the ends of a range, by the tests of the code.
module _ (k v j w : ℕ) (p : v < 10 ^ k) (q : w < 10 ^ j) where
  range_opens :
      code_range true (digits k v) (digits j w)
      ≡ cond (eqb k j && leb v w) (whole_range (range_of k v (w + 1 - v))) (Err RangeNotAllowed)
  unfolding code_range
  range_opens = rw (length_digits k v, length_digits j w, value_digits k v p, value_digits j w q)

  pub no_ends : k ≢ j ⊎ w < v → code_range true (digits k v) (digits j w) ≡ Err RangeNotAllowed
  no_ends h = range_opens ∙ go h
    where
      go : k ≢ j ⊎ w < v → cond (eqb k j && leb v w) (whole_range (range_of k v (w + 1 - v))) (Err RangeNotAllowed) ≡ Err RangeNotAllowed
      go (inl h) = rw (ne_eqb k j h)
      go (inr h) = rw (lt-leb v w h, and_right_false (eqb k j) refl)

  module _ (e : k ≡ j) (h : v ≤ w) where
    pub ends : code_range true (digits k v) (digits j w) ≡ whole_range (range_of k v (w + 1 - v))
    ends = range_opens ∙ rw (eq-eqb k j e, le-leb v w h)

    -- the last code is a value of so many digits
    pub last_below : v + (w + 1 - v) ≤ 10 ^ k
    last_below = omega (arith, ap (λ (n : ℕ). 10 ^ n) e)

    pub last_fits : is_code (digits k v) ≡ true → w + 1 ≤ 10 ^ 15
    last_fits c =
        let m : k ≤ 15 = omega (arith, length_digits k v, (code_facts (digits k v) c).0) in
        omega (arith, last_below, pow-le-pow_right {n = 10} (lit< tt) {i = k} {j = 15} m)

-- A range that can be written, where its first code is allowed.
pub range_written : (k v n : ℕ) → is_code (digits k v) ≡ true → 1 ≤ n → n ≤ 1000 → v + n ≤ 10 ^ k → Writable (range_of k v n)
range_written k v n e l m w =
    record {
      some = omega (arith, code_some (digits k v) e, length_digits k v);
      few = omega (arith, (code_facts (digits k v) e).0, length_digits k v);
      least = l;
      most = m;
      within = w;
    }
