-- What the scan of a cell finds: digits as they are counted one after the other, and the bytes after a code.
use Rattle.std.specs.Prelude.{◌≡◌, refl, Bool, true, cond, ◌&&◌, List, [], ◌∷◌, ℕ, ◌+◌, ◌*◌, eqb, ltb, length, drop, get_or, Result, Ok, Err}
use Rattle.std.specs.List.{prefix_len}
use Rattle.dial_code.specs.Digits.{most_digits, every, is_ascii, digit_of, digits}
use Rattle.dial_code.specs.declared.Code.{Code}
use Rattle.allowed_code.specs.Code.{is_code}
use Rattle.code_entry.specs.Entry.{leading, is_blank, comma, dash, is_some, code_range}
use Rattle.code_entry.specs.Range.{range_of}
use Rattle.code_entry.specs.declared.CodeRange.{CodeRange}
use Rattle.refusal.specs.declared.Refusal.TheVariants.{EntryNotAllowed}
use Rattle.refusal.specs.Steps.{◌>>=◌, Read, ok_at}
use Rattle.refusal.specs.declared.Refusal.{Refusal}

-- So many digits, with their value; and the digits of such a code.
abbrev pub code_with : ℕ → ℕ → Code
code_with k v = record { count = k; value = v }

abbrev pub digits_of : Code → List ℕ
digits_of c = digits c.count c.value

-- One digit more; after 15 the code is too long, whatever follows.
unfoldable pub pushed : Code → ℕ → Code
pushed c d = cond (ltb c.count most_digits) (code_with (c.count + 1) (c.value * 10 + d)) (code_with (most_digits + 1) 0)

-- The digits of some bytes more.
unfoldable pub pushed_all : Code → List ℕ → Code
unfolding pushed
pushed_all c [] = c
pushed_all c (b ∷ s) = pushed_all (pushed c (digit_of b)) s

-- The same of the first bytes that are digits, with where they end.
unfoldable pub run_of : Code → ℕ → List ℕ → Code × ℕ
unfolding pushed_all leading
run_of c at s = (pushed_all c (leading is_ascii s), at + length (leading is_ascii s))

-- Whether an entry is over: the cell ends, or a comma stands next.
unfoldable pub is_end : List ℕ → Bool
is_end [] = true
is_end (b ∷ s) = eqb b comma

-- The digits of a country cell that holds nothing else.
unfoldable pub country_digits : List ℕ → Result Code Refusal
unfolding pushed_all
country_digits c = cond (every is_ascii c) (Ok (pushed_all (code_with 0 0) c)) (Err EntryNotAllowed)

-- A code that is typed at a position behind the country's digits, and allowed, with where it ends.
unfoldable pub typed_code : Code → List ℕ → ℕ → Read Code
unfolding leading pushed_all digits is_code
typed_code own s at =
    cond (is_some (leading is_ascii (drop at s)) && is_code (digits_of (pushed_all own (leading is_ascii (drop at s)))))
    (ok_at (pushed_all own (leading is_ascii (drop at s))) (at + length (leading is_ascii (drop at s))))
    (Err EntryNotAllowed)

-- Where an entry ends, if blanks alone stand from a position to its end.
unfoldable pub entry_end : List ℕ → ℕ → Result ℕ Refusal
unfolding is_end
entry_end s at =
    cond (is_end (drop (at + prefix_len is_blank (drop at s)) s)) (Ok (at + prefix_len is_blank (drop at s)))
    (Err EntryNotAllowed)

-- The range from an allowed first code to the code at a position, with where its entry ends.
unfoldable pub typed_range : Code → Code → List ℕ → ℕ → Read CodeRange
unfolding typed_code entry_end digits code_range
typed_range own first s at = do
  (last, next) ← typed_code own s at
  end ← entry_end s next
  range ← code_range true (digits_of first) (digits_of last)
  ok_at range end

-- The entry at the front of a cell, step by step.
unfoldable pub scanned : List ℕ → List ℕ → Read CodeRange
unfolding country_digits typed_code entry_end typed_range
scanned c s = do
  own ← country_digits c
  (first, at) ← typed_code own s (prefix_len is_blank s)
  cond (eqb (get_or s at 0) dash) (typed_range own first s (at + 1))
      (do
        end ← entry_end s at
        ok_at (range_of first.count first.value 1) end)

-- fifteen digits, and one more, which stays
counts :
    pushed (code_with 2 61) 7 ∷ pushed (code_with 14 3) 5 ∷ pushed (code_with 15 3) 5 ∷ pushed (code_with 16 0) 5 ∷ []
    ≡ code_with 3 617 ∷ code_with 15 35 ∷ code_with 16 0 ∷ code_with 16 0 ∷ []
unfolding pushed
counts = refl
