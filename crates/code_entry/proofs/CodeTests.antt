-- Which codes are allowed, by their count of digits and their value. Assumes nothing.
use mathlib.Core.Path.{◌≡◌, refl, ap, sym, ◌∙◌}
use mathlib.Core.Bool.{Bool, true, false, false≢true, cond, not, ◌||◌}
use mathlib.Core.List.{List, [], ◌∷◌}
use Prim.Native.Nat.{ℕ, zero, suc, ◌-◌, ◌/◌, ◌%◌, ◌^◌, ◌≤◌, ◌<◌}
use native.Mathlib.Nat.{pow-succ', one-le-pow, mod-eq_of_lt, div-eq_of_lt, div-lt_iff_lt-mul, le-div_iff_mul-le}
use native.Mathlib.Omega.{arith}
use borrow.Author.Tests.{le-leb, lt-leb, lt-ltb}
use lib.Dec.{eqb, leb, lit<}
use lib.ListN.{length}
use Rattle.dial_code.specs.Digits.{digits, every, is_digit, is_number, is_written}
use Rattle.dial_code.specs.Key.{key}
use Rattle.country_code.specs.CountryCode.{country_digits}
use Rattle.allowed_code.specs.Code.{is_code, sent_code_key}
use Rattle.dial_code.proofs.DigitLaws.{length_digits, digits_are, zero_first, number_cons, number_facts, digits_value}
use Rattle.dial_code.proofs.Tests.{both, and_right_true, order, below, equal, above, all_below, each_below}
use Rattle.country_code.proofs.CountryLaws.{country_most}
use Rattle.allowed_code.proofs.CodeLaws.{country_test}
use Rattle.allowed_code.proofs.SentCodes.{sent_test}
use Rattle.code_entry.specs.Scan.{digits_of}
use Rattle.code_entry.proofs.Counting.{counted, counted_few, counted_many}
use Rattle.refusal.specs.declared.Refusal.TheVariants.{CodeNotAllowed, OutOfRange}
use Rattle.std.proofs.Common.{Ok, Err}
use Rattle.std.specs.Result.{is_ok}

-- What an allowed code shows: at most 15 digits, and all are.
pub code_facts : (ds : List ℕ) → is_code ds ≡ true → (length ds ≤ 15) × (every is_digit ds ≡ true)
code_facts ds e = number_facts ds (both _ _ (sym (country_test ds) ∙ e)).0

pub code_some : (ds : List ℕ) → is_code ds ≡ true → 1 ≤ length ds
unfolding is_code is_number
code_some [] e = absurd (false≢true e)
code_some (d ∷ ds) e = omega arith

-- A test that cannot hold does not.
refuted : (t : Bool) → (t ≡ true → ⊥) → t ≡ false
refuted true h = absurd (h refl)
refuted false h = refl

too_long : (ds : List ℕ) → 15 < length ds → is_code ds ≡ false
too_long ds h = refuted (is_code ds) (λ e. let p = code_facts ds e in omega (arith, p.0))

-- whether a first digit is 0
first_zero : (k v : ℕ) → v < 10 ^ k → is_number (digits (suc k) v) ≡ false
unfolding digits
first_zero k v h =
    let z : v / 10 ^ k % 10 ≡ 0 = ap (λ (x : ℕ). x % 10) (div-eq_of_lt h) in
    rw z (zero_first (digits k v))

first_some : (k v : ℕ) → k ≤ 14 → 10 ^ k ≤ v → v < 10 ^ suc k → is_number (digits (suc k) v) ≡ true
unfolding digits
first_some k v m h l =
    let u : v / 10 ^ k < 10 = (div-lt_iff_lt-mul (one-le-pow k 10 (lit< tt))).1 (rw (pow-succ' 10 k) at l) in
    let o : 0 < v / 10 ^ k % 10 = rw (mod-eq_of_lt u) ((le-div_iff_mul-le (one-le-pow k 10 (lit< tt))).1 (omega arith)) in
    number_cons _ _ o (digits_are (suc k) v) (omega (arith, length_digits k v))

-- From three digits on a code is allowed where its first digit is not 0.
pub by_first : (k v : ℕ) → 3 ≤ k → k ≤ 15 → v < 10 ^ k → is_code (digits k v) ≡ leb (10 ^ (k - 1)) v
by_first zero v p m l = absurd (omega arith)
by_first (suc k) v p m l =
    let f : suc k - 1 ≡ k = omega arith in
    country_test (digits (suc k) v)
    ∙ and_right_true (is_number (digits (suc k) v))
    (le-leb (country_digits (digits (suc k) v)) (length (digits (suc k) v))
    (omega (arith, country_most (digits (suc k) v), length_digits (suc k) v)))
    ∙ rw f
    (elim (order v (10 ^ k)) [
      | below h ↦ first_zero k v h ∙ sym (lt-leb (10 ^ k) v h)
      | equal h ↦ first_some k v (omega arith) (omega arith) l ∙ sym (le-leb (10 ^ k) v (omega arith))
      | above h ↦ first_some k v (omega arith) (omega arith) l ∙ sym (le-leb (10 ^ k) v (omega arith))
    ])

-- Of more than 15 digits none is.
pub over_long : (k v : ℕ) → 15 < k → is_code (digits k v) ≡ false
over_long k v h = too_long (digits k v) (omega (arith, length_digits k v))

-- Of the codes of one digit, 1 and 7 are allowed.
alike : Bool → Bool → Bool
alike true b = b
alike false b = not b

alike_eq : (a b : Bool) → alike a b ≡ true → a ≡ b
unfolding alike
alike_eq true b e = sym e
alike_eq false true e = e
alike_eq false false e = refl

pub one_digit_law : (k v : ℕ) → k ≡ 1 → v < 10 ^ k → is_code (digits k v) ≡ (eqb v 1 || eqb v 7)
unfolding all_below alike is_code digits
one_digit_law k v e h =
    rw e
    (alike_eq _ _
    (each_below (λ (u : ℕ). alike (is_code (digits 1 u)) (eqb u 1 || eqb u 7)) 10 refl v (rw e at h)))

-- A code has a key as one that is sent where it is allowed.
pub sent_law : (k v : ℕ) → k ≤ 15 → v < 10 ^ k → is_ok (sent_code_key k v) ≡ is_code (digits k v)
unfolding is_written
sent_law k v m l = ap is_ok (sent_test k v) ∙ go (is_code (digits k v)) refl (is_written k v) refl
  where
    written : is_code (digits k v) ≡ true → is_written k v ≡ true
    written t =
        rw (le-leb 1 k (omega (arith, code_some (digits k v) t, length_digits k v)), le-leb k 15 m) (lt-ltb v (10 ^ k) l)

    go : (u : Bool) → is_code (digits k v) ≡ u → (t : Bool) → is_written k v ≡ t
        → is_ok (cond t (cond u (Ok (key (digits k v))) (Err CodeNotAllowed)) (Err OutOfRange)) ≡ u
    go true e true w = refl
    go true e false w = absurd (false≢true (sym w ∙ written e))
    go false e true w = refl
    go false e false w = refl

-- Digits that are counted are an allowed code where the list is; and its digits are then the list's.
pub counted_digits : (ds : List ℕ) → is_code ds ≡ true → digits_of (counted ds) ≡ ds
counted_digits ds e = let p = code_facts ds e in rw (counted_few ds p.0) (digits_value ds p.1)

pub counted_code : (ds : List ℕ) → every is_digit ds ≡ true → is_code (digits_of (counted ds)) ≡ is_code ds
counted_code ds e =
    elim (order (length ds) 16) [
      | below h ↦ rw (counted_few ds (omega arith)) (ap is_code (digits_value ds e))
      | equal h ↦ rw (counted_many ds (omega arith)) (over_long 16 0 (lit< tt) ∙ sym (too_long ds (omega arith)))
      | above h ↦ rw (counted_many ds (omega arith)) (over_long 16 0 (lit< tt) ∙ sym (too_long ds (omega arith)))
    ]

-- No digits are no code.
pub no_digit : (k v : ℕ) → k < 1 → is_code (digits k v) ≡ false
unfolding digits is_code is_number
no_digit zero v h = refl
no_digit (suc k) v h = absurd (omega arith)
