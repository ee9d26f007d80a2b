-- An entry as the scan of a cell reads it, step by step. Assumes nothing.
use mathlib.Core.Path.{◌≡◌, refl, ap, sym, ◌∙◌}
use mathlib.Core.Bool.{Bool, true, false, cond, ◌&&◌}
use mathlib.Core.List.{List, [], ◌∷◌, ◌++◌, map}
use Prim.Native.Nat.{ℕ, suc, ◌+◌, ◌^◌, ◌≤◌, ◌<◌}
use native.Mathlib.Omega.{arith}
use native.Mathlib.Numerals.{add-one}
use borrow.Author.Tests.{eqb-true, ne_eqb}
use lib.Dec.{eqb}
use lib.ListN.{length, get_or, drop, length-drop, drop_of_length-le}
use lib.Seq.{drop-cons}
use Rattle.dial_code.specs.Digits.{every, is_ascii, is_digit, digit_of}
use Rattle.dial_code.specs.declared.Code.{Code}
use Rattle.allowed_code.specs.Code.{is_code}
use Rattle.dial_code.proofs.Tests.{below, equal, above, order, both, and_left_true, and_right_false}
use Rattle.dial_code.proofs.DigitLaws.{length_digits, value_digits, ascii_digits}
use Rattle.code_entry.specs.Range.{range_of}
use Rattle.code_entry.specs.Entry.{leading, after, entry_of, is_blank, is_some, dash, comma, code_of, is_typed, Single, Joined}
use Rattle.code_entry.specs.Entry.{Stray, typed, typed_after, one_code, code_range, typed_codes, entry_codes, sized, read_entry}
use Rattle.code_entry.specs.Entry.{own_code}
use Rattle.code_entry.specs.Scan.{code_with, digits_of, pushed_all, run_of, is_end, country_digits, typed_code, entry_end, typed_range, scanned}
use Rattle.code_entry.specs.declared.CodeRange.{CodeRange}
use Rattle.code_entry.proofs.Scanning.{all_pass, some_stops, length_leading, leading_most, drop_leading, drop_after, leading_entry, after_entry, length_entry, blank_end, ended, dash_there}
use Rattle.code_entry.proofs.Counting.{counted, counted_all, counted_below, no_digits}
use Rattle.code_entry.proofs.CodeTests.{counted_digits, counted_code}
use Rattle.refusal.proofs.ReadParts.{apart, same_read}
use Rattle.refusal.specs.declared.Refusal.TheVariants.{EntryNotAllowed}
use Rattle.refusal.specs.Steps.{◌>>=◌, Read, ok_at}
use Rattle.refusal.specs.declared.Refusal.{Refusal}
use Rattle.std.specs.List.{prefix_len}
use Rattle.std.proofs.Common.{Result, Ok, Err}
use Rattle.std.proofs.lemmas.Bool.{eqb-false}

-- the bytes that pass a test all do
leading_all : (f : ℕ → Bool) (s : List ℕ) → every f (leading f s) ≡ true
unfolding leading
leading_all f [] = refl
leading_all f (b ∷ s) = go (f b) refl (leading_all f s)
  where
    go : (t : Bool) → f b ≡ t → every f (leading f s) ≡ true → every f (cond t (b ∷ leading f s) []) ≡ true
    go true e i = and_left_true _ e ∙ i
    go false e i = refl

-- ASCII digits stand for digits, also behind others.
every_append : (f : ℕ → Bool) (s t : List ℕ) → every f s ≡ true → every f t ≡ true → every f (s ++ t) ≡ true
every_append f [] t d e = e
every_append f (x ∷ s) t d e =
    let p = both (f x) (every f s) d in
    and_left_true _ p.0 ∙ every_append f s t p.1 e

all_digits : (cs s : List ℕ) → every is_digit cs ≡ true → every is_ascii s ≡ true → every is_digit (code_of cs s) ≡ true
all_digits cs s d e = every_append is_digit cs (map digit_of s) d (ascii_digits s e)

-- A part that is not empty.
some_part : (s : List ℕ) → 0 < length s → is_some s ≡ true
some_part [] h = absurd (omega arith)
some_part (b ∷ s) h = refl

no_part : (s : List ℕ) → length s ≤ 0 → is_some s ≡ false
no_part [] h = refl
no_part (b ∷ s) h = absurd (omega arith)

-- What the digits of a country cell are read to.
module _ (c : List ℕ) (r : Code × ℕ) (q : r ≡ run_of (code_with 0 0) 0 c) where
  country_end : r.1 ≡ length (leading is_ascii c)
  unfolding run_of
  country_end = ap (λ (x : Code × ℕ). x.1) q ∙ omega arith

  pub country_refused : r.1 < length c → country_digits c ≡ Err EntryNotAllowed
  unfolding country_digits
  country_refused h = rw (some_stops is_ascii c (omega (arith, country_end)))

  pub country_read : length c ≤ r.1 → country_digits c ≡ Ok r.0
  unfolding country_digits run_of
  country_read h =
      let p = all_pass is_ascii c (omega (arith, country_end)) in
      rw p.0 (ap Ok (sym (ap (λ (x : Code × ℕ). x.0) q ∙ ap (pushed_all (code_with 0 0)) p.1)))

-- What the digits of a code are read to.
module _ (own : Code) (s : List ℕ) (at : ℕ) (r : Code × ℕ) (q : r ≡ run_of own at (drop at s)) where
  read_code_is : r.0 ≡ pushed_all own (leading is_ascii (drop at s))
  unfolding run_of
  read_code_is = ap (λ (x : Code × ℕ). x.0) q

  read_end_is : r.1 ≡ at + length (leading is_ascii (drop at s))
  unfolding run_of
  read_end_is = ap (λ (x : Code × ℕ). x.1) q

  pub none_typed : r.1 ≡ at → typed_code own s at ≡ Err EntryNotAllowed
  unfolding typed_code
  none_typed h = rw (no_part (leading is_ascii (drop at s)) (omega (arith, read_end_is)))

  pub code_refused : is_code (digits_of r.0) ≡ false → typed_code own s at ≡ Err EntryNotAllowed
  unfolding typed_code
  code_refused e =
      rw (sym read_code_is, e, and_right_false (is_some (leading is_ascii (drop at s))) refl)

  pub code_read : (r.1 ≡ at → ⊥) → is_code (digits_of r.0) ≡ true → typed_code own s at ≡ ok_at r.0 r.1
  unfolding typed_code
  code_read n e =
      rw (some_part (leading is_ascii (drop at s)) (omega (arith, read_end_is, n)), sym read_code_is, e, sym read_end_is)

-- A code that is read is allowed, and ends in the cell.
module _ (own : Code) (s : List ℕ) (at : ℕ) {x : Code} {n : ℕ} (q : typed_code own s at ≡ ok_at x n) where
  pub code_facts : (is_code (digits_of x) ≡ true) × (at ≤ length s → n ≤ length s)
  unfolding typed_code
  code_facts = go (is_some (leading is_ascii (drop at s))) (is_code (digits_of code)) refl q
    where
      code : Code
      code = pushed_all own (leading is_ascii (drop at s))

      end : ℕ
      end = at + length (leading is_ascii (drop at s))

      go : (t u : Bool) → is_code (digits_of code) ≡ u → cond (t && u) (ok_at code end) (Err EntryNotAllowed) ≡ ok_at x n
          → (is_code (digits_of x) ≡ true) × (at ≤ length s → n ≤ length s)
      go true true e r =
          let p = same_read r in
          (ap (λ (y : Code). is_code (digits_of y)) (sym p.0) ∙ e, λ h. omega (arith, p.1, leading_most is_ascii (drop at s), length-drop at s))
      go true false e r = absurd (apart (sym r))
      go false u e r = absurd (apart (sym r))

-- What stands at a position of a cell.
module _ (s : List ℕ) (at : ℕ) where
  -- the position after the bytes that pass a test is one of the cell
  pub next_most : (f : ℕ → Bool) → at ≤ length s → at + prefix_len f (drop at s) ≤ length s
  next_most f h = omega (arith, length_leading f (drop at s), leading_most f (drop at s), length-drop at s)

  -- An entry is all blanks from here on where it is over after the blanks, and it then ends with them.
  abbrev blanks_end : ℕ
  blanks_end = at + prefix_len is_blank (drop at s)

  after_blanks : drop blanks_end s ≡ after is_blank (drop at s)
  after_blanks = rw (length_leading is_blank (drop at s)) (drop_after is_blank s at)

  blank_entry : every is_blank (entry_of (drop at s)) ≡ is_end (drop blanks_end s)
  blank_entry = rw after_blanks (blank_end (drop at s))

  end_law :
      entry_end s at
      ≡ cond (every is_blank (entry_of (drop at s))) (Ok (at + length (entry_of (drop at s)))) (Err EntryNotAllowed)
  unfolding entry_end
  end_law = rw blank_entry (go (is_end (drop blanks_end s)) refl)
    where
      go : (t : Bool) → is_end (drop blanks_end s) ≡ t
          → cond t (Ok blanks_end) (Err EntryNotAllowed) ≡ cond t (Ok (at + length (entry_of (drop at s)))) (Err EntryNotAllowed)
      go true e =
          let x : is_end (after is_blank (drop at s)) ≡ true = ap is_end (sym after_blanks) ∙ e in
          ap Ok (
          omega (
            arith,
            length_leading is_blank (drop at s),
            length_entry is_blank refl (drop at s),
            ap length (ended (after is_blank (drop at s)) x),
          )
          )
      go false e = refl

  -- What a rule makes of the entry from here on, with where it ends.
  abbrev sized_from : (List ℕ → Result CodeRange Refusal) → Read CodeRange
  sized_from f = sized (f (entry_of (drop at s))) (at + length (entry_of (drop at s)))

  -- The end of an entry that is all blanks from here on, as a step.
  end_step : (r : Result CodeRange Refusal)
      → sized (cond (every is_blank (entry_of (drop at s))) r (Err EntryNotAllowed)) (at + length (entry_of (drop at s)))
      ≡ (do
        end ← entry_end s at
        range ← r
        ok_at range end)
  end_step r = rw end_law (go (every is_blank (entry_of (drop at s))) r)
    where
      n : ℕ
      n = at + length (entry_of (drop at s))

      go : (t : Bool) (r : Result CodeRange Refusal)
          → sized (cond t r (Err EntryNotAllowed)) n
          ≡ (do
            end ← cond t (Ok n) (Err EntryNotAllowed)
            range ← r
            ok_at range end)
      go true (Ok x) = refl
      go true (Err e) = refl
      go false r = refl

  end_refused : ◌≡◌ {A = Read CodeRange} (entry_end s at >>= (λ (n : ℕ). Err EntryNotAllowed)) (Err EntryNotAllowed)
  end_refused = rw end_law (go (every is_blank (entry_of (drop at s))) (at + length (entry_of (drop at s))))
    where
      go : (t : Bool) (n : ℕ)
          → ◌≡◌ {A = Read CodeRange} (cond t (Ok n) (Err EntryNotAllowed) >>= (λ (m : ℕ). Err EntryNotAllowed)) (Err EntryNotAllowed)
      go true n = refl
      go false n = refl

-- What the bytes after the dash make of an allowed first code; and what the bytes after the code itself do.
unfoldable second_part : Code → Code → List ℕ → Result CodeRange Refusal
second_part own first s =
    cond (every is_blank (after is_ascii s))
    (code_range (is_some (leading is_ascii s) && is_code (digits_of (pushed_all own (leading is_ascii s)))) (digits_of first)
    (digits_of (pushed_all own (leading is_ascii s))))
    (Err EntryNotAllowed)

unfoldable after_first : Code → Code → List ℕ → Result CodeRange Refusal
after_first own first [] = one_code true (digits_of first)
after_first own first (b ∷ s) =
    cond (eqb b dash) (second_part own first s)
    (cond (every is_blank (b ∷ s)) (one_code true (digits_of first)) (Err EntryNotAllowed))

-- One allowed code.
one_code_law : (c : Code) → c.value < 10 ^ c.count → one_code true (digits_of c) ≡ Ok (range_of c.count c.value 1)
unfolding one_code
one_code_law c h = rw (length_digits c.count c.value, value_digits c.count c.value h)

-- The entry after an allowed first code, as steps: at a dash, and anywhere else.
module _ (own first : Code) (s : List ℕ) where
  abbrev single_steps : ℕ → Read CodeRange
  single_steps at = do
    end ← entry_end s at
    ok_at (range_of first.count first.value 1) end

  module _ (at : ℕ) where
    abbrev last_code : Code
    last_code = pushed_all own (leading is_ascii (drop at s))

    abbrev last_end : ℕ
    last_end = at + length (leading is_ascii (drop at s))

    abbrev last_typed : Bool
    last_typed = is_some (leading is_ascii (drop at s)) && is_code (digits_of last_code)

    last_ends : at + length (entry_of (drop at s)) ≡ last_end + length (entry_of (drop last_end s))
    last_ends =
        omega (
          arith,
          length_entry is_ascii refl (drop at s),
          ap (λ (t : List ℕ). length (entry_of t)) (drop_after is_ascii s at),
        )

    second_opens :
        second_part own first (entry_of (drop at s))
        ≡ cond (every is_blank (entry_of (drop last_end s))) (code_range last_typed (digits_of first) (digits_of last_code))
        (Err EntryNotAllowed)
    unfolding second_part
    second_opens =
        rw (after_entry is_ascii refl (drop at s), leading_entry is_ascii refl (drop at s), drop_after is_ascii s at)

    second_law : sized_from s at (second_part own first) ≡ typed_range own first s at
    unfolding typed_range typed_code code_range
    second_law =
        rw (second_opens, last_ends) (end_step s last_end (code_range last_typed (digits_of first) (digits_of last_code)))
        ∙ go last_typed
      where
        go : (t : Bool)
            → (do
              end ← entry_end s last_end
              range ← code_range t (digits_of first) (digits_of last_code)
              ok_at range end)
            ≡ (do
              (last, next) ← cond t (ok_at last_code last_end) (Err EntryNotAllowed)
              end ← entry_end s next
              range ← code_range true (digits_of first) (digits_of last)
              ok_at range end)
        go true = refl
        go false = end_refused s last_end

    -- at a dash
    at_dash : at < length s → get_or s at 0 ≡ 45 → entry_of (drop at s) ≡ 45 ∷ entry_of (drop (at + 1) s)
    unfolding entry_of leading
    at_dash h e = rw (drop-cons s at 0 h, e, add-one)

    dash_part : at < length s → get_or s at 0 ≡ 45
        → sized_from s at (after_first own first) ≡ sized_from s (at + 1) (second_part own first)
    unfolding after_first
    dash_part h e =
        let n : at + suc (length (entry_of (drop (at + 1) s))) ≡ at + 1 + length (entry_of (drop (at + 1) s)) = omega arith in
        rw (at_dash h e) (ap (sized (second_part own first (entry_of (drop (at + 1) s)))) n)

    no_dash : (get_or s at 0 ≡ 45 → ⊥)
        → after_first own first (entry_of (drop at s))
        ≡ cond (every is_blank (entry_of (drop at s))) (one_code true (digits_of first)) (Err EntryNotAllowed)
    unfolding after_first entry_of leading
    no_dash n =
        elim (order at (length s)) [
          | below h ↦ rw (drop-cons s at 0 h) (byte (get_or s at 0) (drop (suc at) s) n)
          | equal h ↦ rw (drop_of_length-le s {i = at} (omega arith))
          | above h ↦ rw (drop_of_length-le s {i = at} (omega arith))
        ]
      where
        byte : (b : ℕ) (u : List ℕ) → (b ≡ 45 → ⊥)
            → after_first own first (entry_of (b ∷ u))
            ≡ cond (every is_blank (entry_of (b ∷ u))) (one_code true (digits_of first)) (Err EntryNotAllowed)
        byte b u m = go (eqb b comma) refl
          where
            go : (t : Bool) → eqb b comma ≡ t
                → after_first own first (entry_of (b ∷ u))
                ≡ cond (every is_blank (entry_of (b ∷ u))) (one_code true (digits_of first)) (Err EntryNotAllowed)
            go true e = rw e
            go false e = rw (e, ne_eqb b 45 m)

  after_law : (at : ℕ) → first.value < 10 ^ first.count
      → sized_from s at (after_first own first)
      ≡ cond (eqb (get_or s at 0) dash) (typed_range own first s (at + 1)) (single_steps at)
  after_law at h = go (eqb (get_or s at 0) dash) refl
    where
      go : (t : Bool) → eqb (get_or s at 0) dash ≡ t
          → sized_from s at (after_first own first) ≡ cond t (typed_range own first s (at + 1)) (single_steps at)
      go true e =
          let d : get_or s at 0 ≡ 45 = eqb-true (get_or s at 0) 45 e in
          dash_part at (dash_there s at e) d ∙ second_law (at + 1)
      go false e =
          rw (no_dash at (eqb-false (get_or s at 0) 45 e), one_code_law first h) (end_step s at (Ok (range_of first.count first.value 1)))

-- The country's digits, counted.
country_counted : (c : List ℕ) → pushed_all (code_with 0 0) c ≡ counted (map digit_of c)
country_counted c = ap (λ (x : Code). pushed_all x c) (sym no_digits) ∙ counted_all [] c

-- The country's own code.
pub own_law :
    (c : List ℕ)
    → own_code c
    ≡ (do
      code ← country_digits c
      cond (is_code (digits_of code)) (Ok (range_of code.count code.value 1)) (Err EntryNotAllowed))
unfolding own_code country_digits one_code
own_law c = go (every is_ascii c) refl
  where
    named : (t : Bool) → is_code (map digit_of c) ≡ t → every is_digit (map digit_of c) ≡ true
        → one_code t (map digit_of c)
        ≡ cond t (Ok (range_of (counted (map digit_of c)).count (counted (map digit_of c)).value 1)) (Err EntryNotAllowed)
    named true e d =
        ap (one_code true) (sym (counted_digits (map digit_of c) e))
        ∙ one_code_law (counted (map digit_of c)) (counted_below (map digit_of c) d)
    named false e d = refl

    go : (t : Bool) → every is_ascii c ≡ t
        → one_code (t && is_code (map digit_of c)) (map digit_of c)
        ≡ (do
          code ← cond t (Ok (pushed_all (code_with 0 0) c)) (Err EntryNotAllowed)
          cond (is_code (digits_of code)) (Ok (range_of code.count code.value 1)) (Err EntryNotAllowed))
    go true e =
        rw (country_counted c, counted_code (map digit_of c) (ascii_digits c e))
        (named (is_code (map digit_of c)) refl (ascii_digits c e))
    go false e = refl

-- An entry whose first code is not typed or not allowed is refused.
first_refused : (cs a s : List ℕ) → is_typed cs a ≡ false → typed_codes cs (typed_after a s) ≡ Err EntryNotAllowed
unfolding typed_codes typed_after one_code code_range
first_refused cs a [] e = rw e
first_refused cs a (b ∷ s) e = go (eqb b dash) (every is_blank (after is_ascii s)) (every is_blank (b ∷ s))
  where
    go : (t u v : Bool)
        → typed_codes cs (cond t (cond u (Joined a (leading is_ascii s)) Stray) (cond v (Single a) Stray)) ≡ Err EntryNotAllowed
    go true true v = rw e
    go true false v = refl
    go false u true = rw e
    go false u false = refl

-- A range to a code as it is typed, and to the same code counted.
counted_range : (t : Bool) (ds es : List ℕ) → every is_digit es ≡ true
    → code_range (t && is_code es) ds es ≡ code_range (t && is_code (digits_of (counted es))) ds (digits_of (counted es))
unfolding code_range
counted_range false ds es p = refl
counted_range true ds es p = go (is_code es) refl
  where
    go : (u : Bool) → is_code es ≡ u
        → code_range (is_code es) ds es ≡ code_range (is_code (digits_of (counted es))) ds (digits_of (counted es))
    go true e = rw (counted_digits es e)
    go false e = rw (counted_code es p, e)

-- Else it is what the bytes after its first code make of it.
first_allowed : (cs a s : List ℕ) → every is_digit cs ≡ true → is_typed cs a ≡ true
    → typed_codes cs (typed_after a s) ≡ after_first (counted cs) (counted (code_of cs a)) s
unfolding typed_codes typed_after after_first second_part is_typed
first_allowed cs a [] d e =
    let q = counted_digits (code_of cs a) (both (is_some a) (is_code (code_of cs a)) e).1 in
    rw (e, q)
first_allowed cs a (b ∷ s) d e = go (eqb b dash) (every is_blank (after is_ascii s)) refl (every is_blank (b ∷ s))
  where
    q : digits_of (counted (code_of cs a)) ≡ code_of cs a
    q = counted_digits (code_of cs a) (both (is_some a) (is_code (code_of cs a)) e).1

    ranged : code_range (is_typed cs a && is_typed cs (leading is_ascii s)) (code_of cs a) (code_of cs (leading is_ascii s))
        ≡ code_range (is_some (leading is_ascii s) && is_code (digits_of (pushed_all (counted cs) (leading is_ascii s))))
        (digits_of (counted (code_of cs a)))
        (digits_of (pushed_all (counted cs) (leading is_ascii s)))
    ranged =
        rw (e, q, counted_all cs (leading is_ascii s))
        (counted_range (is_some (leading is_ascii s)) (code_of cs a) (code_of cs (leading is_ascii s))
        (all_digits cs (leading is_ascii s) d (leading_all is_ascii s)))

    go : (t u : Bool) → every is_blank (after is_ascii s) ≡ u → (v : Bool)
        → typed_codes cs (cond t (cond u (Joined a (leading is_ascii s)) Stray) (cond v (Single a) Stray))
        ≡ cond t (second_part (counted cs) (counted (code_of cs a)) s)
        (cond v (one_code true (digits_of (counted (code_of cs a)))) (Err EntryNotAllowed))
    go true true x v = ranged ∙ sym (rw x)
    go true false x v = sym (rw x)
    go false u x true = rw (e, q)
    go false u x false = refl

-- The rule of the entry at the front of a cell, and the scan's steps.
module _ (c s : List ℕ) where
  abbrev start : ℕ
  start = prefix_len is_blank s

  after_start : drop start s ≡ after is_blank s
  after_start = rw (length_leading is_blank s) (drop_leading is_blank s)

  abbrev first_part : List ℕ
  first_part = leading is_ascii (drop start s)

  abbrev first_end : ℕ
  first_end = start + length first_part

  entry_opens :
      typed_codes (map digit_of c) (typed (entry_of s))
      ≡ typed_codes (map digit_of c) (typed_after first_part (entry_of (drop first_end s)))
  unfolding typed
  entry_opens =
      rw (
        after_entry is_blank refl s,
        sym after_start,
        leading_entry is_ascii refl (drop start s),
        after_entry is_ascii refl (drop start s),
        sym (drop_after is_ascii s start),
      )

  entry_ends : length (entry_of s) ≡ first_end + length (entry_of (drop first_end s))
  entry_ends =
      omega (
        arith,
        length_entry is_blank refl s,
        length_entry is_ascii refl (drop start s),
        ap (λ (x : List ℕ). length (entry_of x)) after_start,
        length_leading is_blank s,
        ap (λ (x : List ℕ). length (entry_of x)) (drop_after is_ascii s start),
      )

  abbrev own : Code
  own = counted (map digit_of c)

  abbrev first_code : Code
  first_code = counted (code_of (map digit_of c) first_part)

  pub scan_law : read_entry c s ≡ scanned c s
  unfolding read_entry entry_codes scanned country_digits typed_code is_typed
  scan_law = go (every is_ascii c) refl
    where
      typed_first : every is_digit (map digit_of c) ≡ true → (t : Bool) → is_typed (map digit_of c) first_part ≡ t
          → sized (typed_codes (map digit_of c) (typed_after first_part (entry_of (drop first_end s))))
          (first_end + length (entry_of (drop first_end s)))
          ≡ (do
            (first, at) ← cond t (ok_at first_code first_end) (Err EntryNotAllowed)
            cond (eqb (get_or s at 0) dash) (typed_range own first s (at + 1)) (single_steps own first s at))
      typed_first d true e =
          rw (first_allowed (map digit_of c) first_part (entry_of (drop first_end s)) d e)
          (after_law own first_code s first_end
          (counted_below (code_of (map digit_of c) first_part)
          (all_digits (map digit_of c) first_part d (leading_all is_ascii (drop start s)))))
      typed_first d false e = rw (first_refused (map digit_of c) first_part (entry_of (drop first_end s)) e)

      go : (t : Bool) → every is_ascii c ≡ t
          → sized (cond t (typed_codes (map digit_of c) (typed (entry_of s))) (Err EntryNotAllowed)) (length (entry_of s))
          ≡ (do
            own ← cond t (Ok (pushed_all (code_with 0 0) c)) (Err EntryNotAllowed)
            (first, at) ← typed_code own s start
            cond (eqb (get_or s at 0) dash) (typed_range own first s (at + 1)) (single_steps own first s at))
      go true e =
          let d = ascii_digits c e in
          let q = counted_code (code_of (map digit_of c) first_part) (all_digits (map digit_of c) first_part d (leading_all is_ascii (drop start s))) in
          rw (entry_opens, entry_ends, country_counted c, counted_all (map digit_of c) first_part, q)
          (typed_first d (is_typed (map digit_of c) first_part) refl)
      go false e = refl
