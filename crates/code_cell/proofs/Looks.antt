-- The tests of the code, one at a time. Assumes nothing.
use Rattle.std.proofs.Common.{◌≡◌, refl, ap, sym, ℕ, ◌+◌, ◌^◌, ◌≤◌, ◌<◌, min, true, false, List, [], ◌∷◌, length, arith}
use native.Mathlib.Numerals.{add-one}
use borrow.Author.Tests.{eq-eqb, ne_eqb}
use lib.ListN.{get_or, drop, drop_of_length-le}
use lib.Seq.{drop-cons}
use Rattle.dial_code.specs.Digits.{every}
use Rattle.code_entry.specs.Entry.{blank, is_blank}
use Rattle.code_cell.specs.Cell.{is_own}
use Rattle.dial_code.proofs.CountedKeys.{few_tens}

-- Blanks from a place on: one more, another byte, and no byte left.
module _ (s : List ℕ) (at : ℕ) where
  pub blank_next : at < length s → get_or s at 0 ≡ blank → every is_blank (drop at s) ≡ every is_blank (drop (at + 1) s)
  blank_next h e =
      rw (drop-cons s at 0 h, eq-eqb (get_or s at 0) blank e)
      (ap (λ (i : ℕ). every is_blank (drop i s)) (sym (add-one at)))

  pub blank_not : at < length s → (get_or s at 0 ≡ blank → ⊥) → every is_blank (drop at s) ≡ false
  blank_not h e = rw (drop-cons s at 0 h, ne_eqb (get_or s at 0) blank e)

  pub blank_end : length s ≤ at → every is_blank (drop at s) ≡ true
  blank_end h = rw (drop_of_length-le s {i = at} h)

-- A cell of the country's own code.
pub no_country : (c s : List ℕ) → length c ≡ 0 → is_own c s ≡ false
no_country [] s h = refl
no_country (x ∷ c) s h = absurd (omega arith)

pub some_country : (c s : List ℕ) → (length c ≡ 0 → ⊥) → is_own c s ≡ every is_blank s
some_country [] s h = absurd (h refl)
some_country (x ∷ c) s h = refl

-- A range's first number.
pub low_so : (d f t : ℕ) → d ≤ 15 → t ≡ 10 ^ min d 15 → t + f ≡ 10 ^ d + f
low_so d f t h e = ap (λ (x : ℕ). x + f) (few_tens d t h e)
