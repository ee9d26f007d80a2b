-- A country cell of digits is the same as its digits written before every code. Assumes nothing.
use mathlib.Core.Path.{◌≡◌, refl, ap, ap₂, sym, ◌∙◌}
use mathlib.Core.Bool.{Bool, true, false, false≢true, cond, ◌&&◌, not}
use mathlib.Core.List.{List, [], ◌∷◌, ◌++◌, map, map-append}
use Prim.Native.Nat.{ℕ}
use borrow.Author.Tests.{ne_eqb, eqb-true}
use lib.Dec.{eqb}
use Rattle.dial_code.specs.Digits.{every, is_ascii, digit_of}
use Rattle.dial_code.proofs.Tests.{both, and_left_true, and_right_false}
use Rattle.allowed_code.specs.Code.{is_code}
use Rattle.code_entry.specs.Entry.{blank, comma, dash, is_blank, leading, after, Typed, Single, Joined, Stray, typed_after, typed}
use Rattle.code_entry.specs.Entry.{code_of, is_some, is_typed, one_code, code_range, typed_codes, entry_codes}
use Rattle.code_cell.specs.Cell.{before, entries_of, keys_named, is_own, cell_keys}
use Rattle.code_cell.proofs.Refusals.{plain_cell}
use Rattle.cell_laws.specs.Prefixed.{before_runs, before_codes}
use Rattle.refusal.specs.declared.Refusal.TheVariants.{EntryNotAllowed}
use Rattle.refusal.specs.declared.Refusal.{Refusal}
use Rattle.code_entry.specs.declared.CodeRange.{CodeRange}
use Rattle.std.proofs.Common.{Result, Err}

-- a digit is no other byte, and another byte no digit
not_other : (x b : ℕ) → is_ascii x ≡ false → is_ascii b ≡ true → eqb b x ≡ false
not_other x b n e = ne_eqb b x (λ q. false≢true (sym n ∙ ap is_ascii (sym q) ∙ e))

no_digit : (x b : ℕ) → is_ascii x ≡ false → eqb b x ≡ true → is_ascii b ≡ false
no_digit x b n e = ap is_ascii (eqb-true b x e) ∙ n

-- The first bytes that pass a test, by the first of all.
module _ (f : ℕ → Bool) (b : ℕ) (s : List ℕ) where
  leading_passes : f b ≡ true → leading f (b ∷ s) ≡ b ∷ leading f s
  unfolding leading
  leading_passes e = ap (λ (t : Bool). cond t (b ∷ leading f s) []) e

  leading_stops : f b ≡ false → leading f (b ∷ s) ≡ []
  unfolding leading
  leading_stops e = ap (λ (t : Bool). cond t (b ∷ leading f s) []) e

  after_passes : f b ≡ true → after f (b ∷ s) ≡ after f s
  unfolding after
  after_passes e = ap (λ (t : Bool). cond t (after f s) (b ∷ s)) e

  after_stops : f b ≡ false → after f (b ∷ s) ≡ b ∷ s
  unfolding after
  after_stops e = ap (λ (t : Bool). cond t (after f s) (b ∷ s)) e

-- Digits before other bytes.
leading_digits : (p x : List ℕ) → every is_ascii p ≡ true → leading is_ascii (p ++ x) ≡ p ++ leading is_ascii x
leading_digits [] x a = refl
leading_digits (d ∷ p) x a =
    let q = both (is_ascii d) (every is_ascii p) a in
    leading_passes is_ascii d (p ++ x) q.0 ∙ ap (λ (s : List ℕ). d ∷ s) (leading_digits p x q.1)

after_digits : (p x : List ℕ) → every is_ascii p ≡ true → after is_ascii (p ++ x) ≡ after is_ascii x
after_digits [] x a = refl
after_digits (d ∷ p) x a =
    let q = both (is_ascii d) (every is_ascii p) a in
    after_passes is_ascii d (p ++ x) q.0 ∙ after_digits p x q.1

-- a code's bytes are not all blanks, and no blanks are at their front
some_digit : (p : List ℕ) (b : ℕ) (x : List ℕ) → every is_ascii p ≡ true → is_ascii b ≡ true → every is_blank (p ++ (b ∷ x)) ≡ false
some_digit [] b x a e = ap (λ (t : Bool). t && every is_blank x) (not_other blank b refl e)
some_digit (d ∷ p) b x a e =
    ap (λ (t : Bool). t && every is_blank (p ++ (b ∷ x))) (not_other blank d refl (both (is_ascii d) (every is_ascii p) a).0)

no_blanks : (p : List ℕ) (b : ℕ) (x : List ℕ) → every is_ascii p ≡ true → is_ascii b ≡ true → after is_blank (p ++ (b ∷ x)) ≡ p ++ (b ∷ x)
no_blanks [] b x a e = after_stops is_blank b x (not_other blank b refl e)
no_blanks (d ∷ p) b x a e =
    after_stops is_blank d (p ++ (b ∷ x)) (not_other blank d refl (both (is_ascii d) (every is_ascii p) a).0)

-- Bytes before a cell go before its first entry, where none is a comma.
abbrev on_first : List ℕ → List (List ℕ) → List (List ℕ)
on_first [] es = es
on_first (d ∷ p) es = before d (on_first p es)

on_first_law : (p e : List ℕ) (es : List (List ℕ)) → on_first p (e ∷ es) ≡ (p ++ e) ∷ es
on_first_law [] e es = refl
on_first_law (d ∷ p) e es = ap (before d) (on_first_law p e es)

entries_byte : (b : ℕ) (s : List ℕ) → eqb b comma ≡ false → entries_of (b ∷ s) ≡ before b (entries_of s)
unfolding entries_of
entries_byte b s e = ap (λ (t : Bool). cond t ([] ∷ entries_of s) (before b (entries_of s))) e

entries_comma : (b : ℕ) (s : List ℕ) → eqb b comma ≡ true → entries_of (b ∷ s) ≡ [] ∷ entries_of s
unfolding entries_of
entries_comma b s e = ap (λ (t : Bool). cond t ([] ∷ entries_of s) (before b (entries_of s))) e

entries_digits : (p x : List ℕ) → every is_ascii p ≡ true → entries_of (p ++ x) ≡ on_first p (entries_of x)
entries_digits [] x a = refl
entries_digits (d ∷ p) x a =
    let q = both (is_ascii d) (every is_ascii p) a in
    entries_byte d (p ++ x) (not_other comma d refl q.0) ∙ ap (before d) (entries_digits p x q.1)

module _ (c : List ℕ) (a : every is_ascii c ≡ true) where
  -- One byte of a cell: what goes before it is digits or nothing.
  step : {u : Bool} (t : Bool) (b : ℕ) (s : List ℕ) → is_ascii b ≡ u
      → before_runs c t (b ∷ s) ≡ cond (u && not t) c [] ++ (b ∷ before_runs c u s)
  unfolding before_runs
  step t b s e = ap (λ (u : Bool). cond (u && not t) c [] ++ (b ∷ before_runs c u s)) e

  digits_before : (u : Bool) → every is_ascii (cond u c []) ≡ true
  digits_before true = a
  digits_before false = refl

  -- Of each entry the digits go before its codes: none starts inside one.
  abbrev on_each : Bool → List (List ℕ) → List (List ℕ)
  on_each t [] = []
  on_each t (e ∷ es) = before_runs c t e ∷ map (before_codes c) es

  on_each_law : (es : List (List ℕ)) → on_each false es ≡ map (before_codes c) es
  unfolding before_codes
  on_each_law [] = refl
  on_each_law (e ∷ es) = refl

  on_byte : (t : Bool) (b : ℕ) (es : List (List ℕ))
      → on_first (cond (is_ascii b && not t) c []) (before b (on_each (is_ascii b) es)) ≡ on_each t (before b es)
  unfolding before_runs
  on_byte t b [] = on_first_law (cond (is_ascii b && not t) c []) (b ∷ []) []
  on_byte t b (e ∷ es) = on_first_law (cond (is_ascii b && not t) c []) (b ∷ before_runs c (is_ascii b) e) (map (before_codes c) es)

  entries_runs : (t : Bool) (s : List ℕ) → entries_of (before_runs c t s) ≡ on_each t (entries_of s)
  unfolding before_runs entries_of
  entries_runs t [] = refl
  entries_runs t (b ∷ s) = go (eqb b comma) refl (λ (u : Bool). entries_runs u s)
    where
      p : List ℕ
      p = cond (is_ascii b && not t) c []

      go : (v : Bool) → eqb b comma ≡ v → ((u : Bool) → entries_of (before_runs c u s) ≡ on_each u (entries_of s))
          → entries_of (before_runs c t (b ∷ s)) ≡ on_each t (entries_of (b ∷ s))
      go true e i =
          ap entries_of (step t b s (no_digit comma b refl e))
          ∙ entries_comma b (before_runs c false s) e
          ∙ ap (λ (es : List (List ℕ)). [] ∷ es) (i false ∙ on_each_law (entries_of s))
          ∙ ap (on_each t) (sym (entries_comma b s e))
      go false e i =
          entries_digits p (b ∷ before_runs c (is_ascii b) s) (digits_before (is_ascii b && not t))
          ∙ ap (on_first p) (entries_byte b (before_runs c (is_ascii b) s) e ∙ ap (before b) (i (is_ascii b)))
          ∙ on_byte t b (entries_of s)
          ∙ ap (on_each t) (sym (entries_byte b s e))

  entries_before : (s : List ℕ) → entries_of (before_codes c s) ≡ map (before_codes c) (entries_of s)
  unfolding before_codes
  entries_before s = entries_runs false s ∙ on_each_law (entries_of s)

  -- A code as it is typed, with the digits before it; none where there is none.
  abbrev put : List ℕ → List ℕ
  put [] = []
  put (x ∷ s) = c ++ (x ∷ s)

  run_on : (s : List ℕ) → leading is_ascii (before_runs c true s) ≡ leading is_ascii s
  unfolding before_runs leading
  run_on [] = refl
  run_on (b ∷ s) = go (is_ascii b) refl (run_on s)
    where
      go : (u : Bool) → is_ascii b ≡ u → leading is_ascii (before_runs c true s) ≡ leading is_ascii s
          → leading is_ascii (before_runs c true (b ∷ s)) ≡ leading is_ascii (b ∷ s)
      go true e i =
          ap (leading is_ascii) (step true b s e)
          ∙ leading_passes is_ascii b (before_runs c true s) e
          ∙ ap (λ (x : List ℕ). b ∷ x) i
          ∙ sym (leading_passes is_ascii b s e)
      go false e i =
          ap (leading is_ascii) (step true b s e)
          ∙ leading_stops is_ascii b (before_runs c false s) e
          ∙ sym (leading_stops is_ascii b s e)

  first_run : (s : List ℕ) → leading is_ascii (before_runs c false s) ≡ put (leading is_ascii s)
  unfolding before_runs leading
  first_run [] = refl
  first_run (b ∷ s) = go (is_ascii b) refl
    where
      go : (u : Bool) → is_ascii b ≡ u → leading is_ascii (before_runs c false (b ∷ s)) ≡ put (leading is_ascii (b ∷ s))
      go true e =
          ap (leading is_ascii) (step false b s e)
          ∙ leading_digits c (b ∷ before_runs c true s) a
          ∙ ap (λ (x : List ℕ). c ++ x) (leading_passes is_ascii b (before_runs c true s) e ∙ ap (λ (x : List ℕ). b ∷ x) (run_on s))
          ∙ ap put (sym (leading_passes is_ascii b s e))
      go false e =
          ap (leading is_ascii) (step false b s e)
          ∙ leading_stops is_ascii b (before_runs c false s) e
          ∙ ap put (sym (leading_stops is_ascii b s e))

  -- Behind a code, and behind blanks.
  behind_run : (t : Bool) (s : List ℕ) → after is_ascii (before_runs c t s) ≡ before_runs c false (after is_ascii s)
  unfolding before_runs after
  behind_run t [] = refl
  behind_run t (b ∷ s) = go (is_ascii b) refl (behind_run true s)
    where
      go : (u : Bool) → is_ascii b ≡ u → after is_ascii (before_runs c true s) ≡ before_runs c false (after is_ascii s)
          → after is_ascii (before_runs c t (b ∷ s)) ≡ before_runs c false (after is_ascii (b ∷ s))
      go true e i =
          ap (after is_ascii) (step t b s e)
          ∙ after_digits (cond (not t) c []) (b ∷ before_runs c true s) (digits_before (not t))
          ∙ after_passes is_ascii b (before_runs c true s) e
          ∙ i
          ∙ ap (before_runs c false) (sym (after_passes is_ascii b s e))
      go false e i =
          ap (after is_ascii) (step t b s e)
          ∙ after_stops is_ascii b (before_runs c false s) e
          ∙ sym (step false b s e)
          ∙ ap (before_runs c false) (sym (after_stops is_ascii b s e))

  behind_blanks : (s : List ℕ) → after is_blank (before_runs c false s) ≡ before_runs c false (after is_blank s)
  unfolding before_runs after
  behind_blanks [] = refl
  behind_blanks (b ∷ s) = go (is_blank b) refl (behind_blanks s)
    where
      stays : is_blank b ≡ false → (u : Bool) → is_ascii b ≡ u
          → after is_blank (before_runs c false (b ∷ s)) ≡ before_runs c false (b ∷ s)
      stays n true e =
          ap (after is_blank) (step false b s e) ∙ no_blanks c b (before_runs c true s) a e ∙ sym (step false b s e)
      stays n false e =
          ap (after is_blank) (step false b s e) ∙ after_stops is_blank b (before_runs c false s) n ∙ sym (step false b s e)

      go : (v : Bool) → is_blank b ≡ v → after is_blank (before_runs c false s) ≡ before_runs c false (after is_blank s)
          → after is_blank (before_runs c false (b ∷ s)) ≡ before_runs c false (after is_blank (b ∷ s))
      go true e i =
          ap (after is_blank) (step false b s (no_digit blank b refl e))
          ∙ after_passes is_blank b (before_runs c false s) e
          ∙ i
          ∙ ap (before_runs c false) (sym (after_passes is_blank b s e))
      go false e i = stays e (is_ascii b) refl ∙ ap (before_runs c false) (sym (after_stops is_blank b s e))

  all_blanks : (t : Bool) (s : List ℕ) → every is_blank (before_runs c t s) ≡ every is_blank s
  unfolding before_runs
  all_blanks t [] = refl
  all_blanks t (b ∷ s) = go (is_ascii b) refl (all_blanks false s)
    where
      go : (u : Bool) → is_ascii b ≡ u → every is_blank (before_runs c false s) ≡ every is_blank s
          → every is_blank (before_runs c t (b ∷ s)) ≡ every is_blank (b ∷ s)
      go true e i =
          ap (every is_blank) (step t b s e)
          ∙ some_digit (cond (not t) c []) b (before_runs c true s) (digits_before (not t)) e
          ∙ sym (some_digit [] b s refl e)
      go false e i = ap (every is_blank) (step t b s e) ∙ ap (λ (v : Bool). is_blank b && v) i

  -- An entry by its form.
  abbrev put_typed : Typed → Typed
  put_typed (Single k) = Single (put k)
  put_typed (Joined k l) = Joined (put k) (put l)
  put_typed Stray = Stray

  put_form :
      (d x y : Bool) (k l : List ℕ)
      → cond d (cond x (Joined (put k) (put l)) Stray) (cond y (Single (put k)) Stray)
      ≡ put_typed (cond d (cond x (Joined k l) Stray) (cond y (Single k) Stray))
  put_form true true y k l = refl
  put_form true false y k l = refl
  put_form false x true k l = refl
  put_form false x false k l = refl

  abbrev form : ℕ → List ℕ → Bool → List ℕ → Bool → Typed
  form b k x l y = cond (eqb b dash) (cond x (Joined k l) Stray) (cond (is_blank b && y) (Single k) Stray)

  typed_other :
      (k : List ℕ) (b : ℕ) (s : List ℕ) → is_ascii b ≡ false
      → typed_after (put k) (before_runs c false (b ∷ s)) ≡ put_typed (typed_after k (b ∷ s))
  unfolding typed_after
  typed_other k b s e =
      ap (typed_after (put k)) (step false b s e)
      ∙ ap (λ (x : Bool). form b (put k) x (leading is_ascii (before_runs c false s)) (every is_blank (before_runs c false s)))
      (ap (every is_blank) (behind_run false s) ∙ all_blanks false (after is_ascii s))
      ∙ ap₂ (form b (put k) (every is_blank (after is_ascii s))) (first_run s) (all_blanks false s)
      ∙ put_form (eqb b dash) (every is_blank (after is_ascii s)) (is_blank b && every is_blank s) k (leading is_ascii s)

  typed_behind :
      (k s : List ℕ) → typed_after (put k) (before_runs c false (after is_ascii s)) ≡ put_typed (typed_after k (after is_ascii s))
  unfolding typed_after after before_runs
  typed_behind k [] = refl
  typed_behind k (b ∷ s) = go (is_ascii b) refl (typed_behind k s)
    where
      go : (u : Bool) → is_ascii b ≡ u
          → typed_after (put k) (before_runs c false (after is_ascii s)) ≡ put_typed (typed_after k (after is_ascii s))
          → typed_after (put k) (before_runs c false (after is_ascii (b ∷ s))) ≡ put_typed (typed_after k (after is_ascii (b ∷ s)))
      go true e i =
          ap (λ (x : List ℕ). typed_after (put k) (before_runs c false x)) (after_passes is_ascii b s e)
          ∙ i
          ∙ ap (λ (x : List ℕ). put_typed (typed_after k x)) (sym (after_passes is_ascii b s e))
      go false e i =
          ap (λ (x : List ℕ). typed_after (put k) (before_runs c false x)) (after_stops is_ascii b s e)
          ∙ typed_other k b s e
          ∙ ap (λ (x : List ℕ). put_typed (typed_after k x)) (sym (after_stops is_ascii b s e))

  typed_before : (e : List ℕ) → typed (before_codes c e) ≡ put_typed (typed e)
  unfolding typed before_codes
  typed_before e =
      let s = after is_blank e in
      ap (λ (x : List ℕ). typed_after (leading is_ascii x) (after is_ascii x)) (behind_blanks e)
      ∙ ap₂ typed_after (first_run s) (behind_run false s)
      ∙ typed_behind (leading is_ascii s) s

  -- What it names: the digits of a code with those before it are the code's behind the country's.
  code_put : (x : ℕ) (k : List ℕ) → code_of [] (put (x ∷ k)) ≡ code_of (map digit_of c) (x ∷ k)
  code_put x k = map-append digit_of c (x ∷ k)

  some_put : (p : List ℕ) (x : ℕ) (k : List ℕ) → is_some (p ++ (x ∷ k)) ≡ true
  some_put [] x k = refl
  some_put (d ∷ p) x k = refl

  is_typed_law : (k : List ℕ) → is_typed [] (put k) ≡ is_typed (map digit_of c) k
  unfolding is_typed
  is_typed_law [] = refl
  is_typed_law (x ∷ k) = and_left_true (is_code (code_of [] (put (x ∷ k)))) (some_put c x k) ∙ ap is_code (code_put x k)

  no_end : (t : Bool) (ds es : List ℕ) → code_range (t && false) ds es ≡ Err EntryNotAllowed
  unfolding code_range
  no_end t ds es = ap (λ (u : Bool). code_range u ds es) (and_right_false t refl)

  codes_put : (t : Typed) → typed_codes [] (put_typed t) ≡ typed_codes (map digit_of c) t
  unfolding typed_codes is_typed one_code code_range
  codes_put (Single []) = refl
  codes_put (Single (x ∷ k)) = ap₂ one_code (is_typed_law (x ∷ k)) (code_put x k)
  codes_put (Joined [] l) = refl
  codes_put (Joined (x ∷ k) []) =
      no_end (is_typed [] (put (x ∷ k))) (code_of [] (put (x ∷ k))) []
      ∙ sym (no_end (is_typed (map digit_of c) (x ∷ k)) (code_of (map digit_of c) (x ∷ k)) (code_of (map digit_of c) []))
  codes_put (Joined (x ∷ k) (y ∷ l)) =
      ap (λ (t : Bool). code_range t (code_of [] (put (x ∷ k))) (code_of [] (put (y ∷ l))))
      (ap₂ (λ (t u : Bool). t && u) (is_typed_law (x ∷ k)) (is_typed_law (y ∷ l)))
      ∙ ap₂ (code_range (is_typed (map digit_of c) (x ∷ k) && is_typed (map digit_of c) (y ∷ l))) (code_put x k) (code_put y l)
  codes_put Stray = refl

  entry_before : (e : List ℕ) → entry_codes c e ≡ entry_codes [] (before_codes c e)
  unfolding entry_codes
  entry_before e =
      ap (λ (t : Bool). cond t (typed_codes (map digit_of c) (typed e)) (Err EntryNotAllowed)) a
      ∙ sym (ap (typed_codes []) (typed_before e) ∙ codes_put (typed e))

  each_before : (es : List (List ℕ)) → map (entry_codes c) es ≡ map (entry_codes []) (map (before_codes c) es)
  each_before [] = refl
  each_before (e ∷ es) = ap₂ (λ (n : Result CodeRange Refusal) (ns : List (Result CodeRange Refusal)). n ∷ ns) (entry_before e) (each_before es)

-- A cell that is not the country's own code, beside a country cell of digits: the cell with those digits before every code, beside
-- none.
pub before_codes_law :
    (c s : List ℕ) (room : ℕ) → every is_ascii c ≡ true → is_own c s ≡ false
    → cell_keys c s room ≡ cell_keys [] (before_codes c s) room
before_codes_law c s room a o =
    plain_cell c s room o
    ∙ ap (keys_named room []) (each_before c a (entries_of s) ∙ ap (map (entry_codes [])) (sym (entries_before c a s)))
    ∙ sym (plain_cell [] (before_codes c s) room refl)
