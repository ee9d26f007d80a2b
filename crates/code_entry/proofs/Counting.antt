-- Digits counted one after the other, with their value. Assumes nothing.
use mathlib.Core.Path.{◌≡◌, refl, ap, sym, ◌∙◌}
use mathlib.Core.Bool.{true, false, cond}
use mathlib.Core.List.{List, [], ◌∷◌, ◌++◌, map, append_assoc, append-nil}
use Prim.Native.Nat.{ℕ, suc, ◌+◌, ◌-◌, ◌*◌, ◌^◌, ◌≤◌, ◌<◌}
use native.Mathlib.Nat.{pow-suc, pow-le-pow_right, mul_assoc}
use native.Mathlib.Omega.{arith}
use borrow.Author.Tests.{lt-ltb, le-ltb, le-leb, lt-leb}
use lib.Dec.{leb, lit<}
use lib.ListN.{length, get_or, drop, length-append}
use Rattle.dial_code.specs.Digits.{every, is_ascii, is_digit, digit_of, value}
use Rattle.dial_code.specs.declared.Code.{Code}
use Rattle.dial_code.proofs.DigitLaws.{value_below}
use Rattle.dial_code.proofs.Tests.{below, equal, above, order}
use Rattle.code_entry.specs.Entry.{leading}
use Rattle.code_entry.specs.Scan.{code_with, pushed, pushed_all, run_of}
use Rattle.code_entry.proofs.Scanning.{none_left, stops, passes}

-- One digit more, by the test of the code: the value does not wrap, and is one that so many digits can write.
module _ (c : Code) (d : ℕ) where
  pub push_more : c.count < 15 → pushed c d ≡ code_with (c.count + 1) (c.value * 10 + d)
  unfolding pushed
  push_more h = rw (lt-ltb c.count 15 h)

  pub push_none : 15 ≤ c.count → pushed c d ≡ code_with 16 0
  unfolding pushed
  push_none h = rw (le-ltb c.count 15 h)

pub push_fits : (k v d : ℕ) → v < 10 ^ k → d < 10 → k < 15 → v * 10 + d < 10 ^ 15
push_fits k v d p l h = omega (arith, pow-le-pow_right {n = 10} (lit< tt) {i = k} {j = 14} (omega arith))

-- The digits of a list, counted; by how many they are.
unfoldable pub counted : List ℕ → Code
unfolding value
counted ds = cond (leb (length ds) 15) (code_with (length ds) (value ds)) (code_with 16 0)

pub no_digits : counted [] ≡ code_with 0 0
unfolding counted
no_digits = refl

module _ (ds : List ℕ) where
  pub counted_few : length ds ≤ 15 → counted ds ≡ code_with (length ds) (value ds)
  unfolding counted
  counted_few h = rw (le-leb (length ds) 15 h)

  pub counted_many : 15 < length ds → counted ds ≡ code_with 16 0
  unfolding counted
  counted_many h = rw (lt-leb (length ds) 15 h)

-- a last digit more: its value, and the same counted
value_last : (ds : List ℕ) (d : ℕ) → value (ds ++ (d ∷ [])) ≡ value ds * 10 + d
unfolding value
value_last [] d = omega arith
value_last (x ∷ ds) d =
    let l : length (ds ++ (d ∷ [])) ≡ suc (length ds) = omega (arith, length-append ds (d ∷ [])) in
    rw (l, value_last ds d, pow-suc) (omega (arith, mul_assoc x (10 ^ length ds) 10))

counted_last : (ds : List ℕ) (d : ℕ) → counted (ds ++ (d ∷ [])) ≡ pushed (counted ds) d
counted_last ds d =
    let l : length (ds ++ (d ∷ [])) ≡ length ds + 1 = length-append ds (d ∷ []) in
    elim (order (length ds) 15) [
      | below h ↦
          rw (counted_few ds (omega arith), push_more (code_with (length ds) (value ds)) d h)
          (counted_few (ds ++ (d ∷ [])) (omega (arith, l)) ∙ rw (l, value_last ds d))
      | equal h ↦
          rw (counted_few ds (omega arith), push_none (code_with (length ds) (value ds)) d (omega arith))
          (counted_many (ds ++ (d ∷ [])) (omega (arith, l)))
      | above h ↦
          rw (counted_many ds h, push_none (code_with 16 0) d (omega arith))
          (counted_many (ds ++ (d ∷ [])) (omega (arith, l)))
    ]

-- The digits of some bytes, counted behind others.
pub counted_all : (ds s : List ℕ) → pushed_all (counted ds) s ≡ counted (ds ++ map digit_of s)
unfolding pushed_all
counted_all ds [] = ap counted (sym (append-nil ds))
counted_all ds (b ∷ s) =
    ap (λ (c : Code). pushed_all c s) (sym (counted_last ds (digit_of b)))
    ∙ counted_all (ds ++ (digit_of b ∷ [])) s
    ∙ ap counted (append_assoc ds (digit_of b ∷ []) (map digit_of s))

-- Digits that are counted have a value that so many digits can write.
pub counted_below : (ds : List ℕ) → every is_digit ds ≡ true → (counted ds).value < 10 ^ (counted ds).count
counted_below ds e =
    elim (order (length ds) 16) [
      | below h ↦ rw (counted_few ds (omega arith)) (value_below ds e)
      | equal h ↦ rw (counted_many ds (omega arith)) (lit< tt)
      | above h ↦ rw (counted_many ds (omega arith)) (lit< tt)
    ]

-- The digits from a place of some bytes on: no more, or one more.
module _ (c : Code) (s : List ℕ) (i at : ℕ) where
  run_none : leading is_ascii (drop i s) ≡ [] → run_of c at (drop i s) ≡ (c, at)
  unfolding run_of pushed_all
  run_none e = rw e (ap (λ (n : ℕ). (c, n)) (omega arith))

  pub run_ends : length s ≤ i → run_of c at (drop i s) ≡ (c, at)
  run_ends h = run_none (none_left is_ascii s i h)

  pub run_stops : i < length s → is_ascii (get_or s i 0) ≡ false → run_of c at (drop i s) ≡ (c, at)
  run_stops h e = run_none (stops is_ascii s i h e)

  pub run_goes : i < length s → is_ascii (get_or s i 0) ≡ true
      → run_of c at (drop i s) ≡ run_of (pushed c (get_or s i 0 - 48)) (at + 1) (drop (i + 1) s)
  unfolding run_of pushed_all
  run_goes h e =
      let n : at + suc (length (leading is_ascii (drop (i + 1) s))) ≡ at + 1 + length (leading is_ascii (drop (i + 1) s)) =
      omega arith in
      rw (passes is_ascii s i h e) (ap (λ (m : ℕ). (pushed_all (pushed c (get_or s i 0 - 48)) (leading is_ascii (drop (i + 1) s)), m)) n)
