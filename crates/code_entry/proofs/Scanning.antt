-- The bytes of a cell that pass a test, from a position on, and where an entry ends. Assumes nothing.
use mathlib.Core.Path.{◌≡◌, refl, ap, sym, ◌∙◌}
use mathlib.Core.Bool.{Bool, true, false, cond, not, false≢true, ◌&&◌}
use mathlib.Core.List.{List, [], ◌∷◌}
use Prim.Native.Nat.{ℕ, suc, ◌+◌, ◌≤◌, ◌<◌}
use native.Mathlib.Omega.{arith}
use native.Mathlib.Numerals.{add-one}
use borrow.Author.Tests.{ne_eqb}
use lib.Dec.{eqb}
use lib.ListN.{length, get_or, get_or-eq_default, drop, drop_of_length-le}
use lib.Seq.{drop-cons, drop-drop}
use Rattle.std.specs.List.{prefix_len}
use Rattle.dial_code.specs.Digits.{every}
use Rattle.dial_code.proofs.Tests.{below, equal, above, order}
use Rattle.code_entry.specs.Entry.{leading, after, entry_of, is_blank, is_no_comma, comma, dash}
use Rattle.code_entry.specs.Scan.{is_end}

module _ (f : ℕ → Bool) where
  -- How many bytes pass.
  pub length_leading : (s : List ℕ) → prefix_len f s ≡ length (leading f s)
  unfolding leading
  length_leading [] = refl
  length_leading (b ∷ s) = go (length_leading s) (f b)
    where
      go : prefix_len f s ≡ length (leading f s) → (t : Bool) → cond t (1 + prefix_len f s) 0 ≡ length (cond t (b ∷ leading f s) [])
      go i true = omega arith
      go i false = refl

  -- No more bytes pass than there are.
  pub leading_most : (s : List ℕ) → length (leading f s) ≤ length s
  unfolding leading
  leading_most [] = omega arith
  leading_most (b ∷ s) = go (leading_most s) (f b)
    where
      go : length (leading f s) ≤ length s → (t : Bool) → length (cond t (b ∷ leading f s) []) ≤ suc (length s)
      go i true = omega arith
      go i false = omega arith

  -- What is left without the bytes that pass is what stands after them.
  pub drop_leading : (s : List ℕ) → drop (length (leading f s)) s ≡ after f s
  unfolding leading after
  drop_leading [] = refl
  drop_leading (b ∷ s) = go (drop_leading s) (f b)
    where
      go : drop (length (leading f s)) s ≡ after f s → (t : Bool)
          → drop (length (cond t (b ∷ leading f s) [])) (b ∷ s) ≡ cond t (after f s) (b ∷ s)
      go i true = i
      go i false = refl

  -- All bytes pass, or not all.
  pub all_pass : (s : List ℕ) → length s ≤ length (leading f s) → (every f s ≡ true) × (leading f s ≡ s)
  unfolding leading
  all_pass [] h = (refl, refl)
  all_pass (b ∷ s) h = go (f b) h (all_pass s)
    where
      go : (t : Bool) → suc (length s) ≤ length (cond t (b ∷ leading f s) [])
          → (length s ≤ length (leading f s) → (every f s ≡ true) × (leading f s ≡ s))
          → ((t && every f s) ≡ true) × (cond t (b ∷ leading f s) [] ≡ b ∷ s)
      go true h i = let p = i (omega arith) in (p.0, ap (λ (r : List ℕ). b ∷ r) p.1)
      go false h i = absurd (omega arith)

  pub some_stops : (s : List ℕ) → length (leading f s) < length s → every f s ≡ false
  unfolding leading
  some_stops [] h = absurd (omega arith)
  some_stops (b ∷ s) h = go (f b) h (some_stops s)
    where
      go : (t : Bool) → length (cond t (b ∷ leading f s) []) < suc (length s)
          → (length (leading f s) < length s → every f s ≡ false) → (t && every f s) ≡ false
      go true h i = i (omega arith)
      go false h i = refl

  -- The bytes from a position on: none, one that stops, one that passes.
  module _ (s : List ℕ) (at : ℕ) where
    pub none_left : length s ≤ at → leading f (drop at s) ≡ []
    unfolding leading
    none_left h = rw (drop_of_length-le s h)

    pub stops : at < length s → f (get_or s at 0) ≡ false → leading f (drop at s) ≡ []
    unfolding leading
    stops h e = rw (drop-cons s at 0 h, e)

    pub passes : at < length s → f (get_or s at 0) ≡ true
        → leading f (drop at s) ≡ get_or s at 0 ∷ leading f (drop (at + 1) s)
    unfolding leading
    passes h e = rw (drop-cons s at 0 h, e, add-one)

    -- what stands after those that pass
    pub drop_after : drop (at + length (leading f (drop at s))) s ≡ after f (drop at s)
    drop_after = sym (drop-drop _ at s) ∙ drop_leading (drop at s)

-- The bytes at the front of an entry, for a test that a comma fails.
module _ (f : ℕ → Bool) (n : f comma ≡ false) where
  no_comma : (b : ℕ) → f b ≡ true → eqb b comma ≡ false
  no_comma b e = ne_eqb b 44 (λ q. false≢true (sym n ∙ ap f (sym q) ∙ e))

  pub leading_entry : (s : List ℕ) → leading f (entry_of s) ≡ leading f s
  unfolding entry_of leading
  leading_entry [] = refl
  leading_entry (b ∷ s) = go (f b) refl (leading_entry s)
    where
      stop : f b ≡ false → (u : Bool) → leading f (cond (not u) (b ∷ leading is_no_comma s) []) ≡ []
      stop e true = refl
      stop e false = rw e

      go : (t : Bool) → f b ≡ t → leading f (entry_of s) ≡ leading f s → leading f (entry_of (b ∷ s)) ≡ leading f (b ∷ s)
      go true e i = rw (no_comma b e, e) (ap (λ (r : List ℕ). b ∷ r) i)
      go false e i = rw e (stop e (eqb b comma))

  pub after_entry : (s : List ℕ) → after f (entry_of s) ≡ entry_of (after f s)
  unfolding entry_of leading after
  after_entry [] = refl
  after_entry (b ∷ s) = go (f b) refl (after_entry s)
    where
      stop : f b ≡ false → (u : Bool)
          → after f (cond (not u) (b ∷ leading is_no_comma s) []) ≡ cond (not u) (b ∷ leading is_no_comma s) []
      stop e true = refl
      stop e false = rw e

      go : (t : Bool) → f b ≡ t → after f (entry_of s) ≡ entry_of (after f s) → after f (entry_of (b ∷ s)) ≡ entry_of (after f (b ∷ s))
      go true e i = rw (no_comma b e, e) i
      go false e i = rw e (stop e (eqb b comma))

  pub length_entry : (s : List ℕ) → length (entry_of s) ≡ length (leading f s) + length (entry_of (after f s))
  unfolding entry_of leading after
  length_entry [] = refl
  length_entry (b ∷ s) = go (f b) refl (length_entry s)
    where
      go : (t : Bool) → f b ≡ t → length (entry_of s) ≡ length (leading f s) + length (entry_of (after f s))
          → length (entry_of (b ∷ s)) ≡ length (leading f (b ∷ s)) + length (entry_of (after f (b ∷ s)))
      go true e i = rw (no_comma b e, e) (omega (arith, i))
      go false e i = rw e (omega arith)

-- An entry is all blanks where it is over after the blanks, and is then nothing from there on.
pub blank_end : (s : List ℕ) → every is_blank (entry_of s) ≡ is_end (after is_blank s)
unfolding entry_of leading after is_end
blank_end [] = refl
blank_end (b ∷ s) = go (is_blank b) refl (blank_end s)
  where
    stop : is_blank b ≡ false → (u : Bool) → every is_blank (cond (not u) (b ∷ leading is_no_comma s) []) ≡ u
    stop e true = refl
    stop e false = rw e

    go : (t : Bool) → is_blank b ≡ t → every is_blank (entry_of s) ≡ is_end (after is_blank s)
        → every is_blank (entry_of (b ∷ s)) ≡ is_end (after is_blank (b ∷ s))
    go true e i = rw (no_comma is_blank refl b e, e) i
    go false e i = rw e (stop e (eqb b comma))

pub ended : (s : List ℕ) → is_end s ≡ true → entry_of s ≡ []
unfolding entry_of leading is_end
ended [] e = refl
ended (b ∷ s) e = rw e

-- Whether an entry is over at a position.
module _ (s : List ℕ) (at : ℕ) where
  pub end_none : length s ≤ at → is_end (drop at s) ≡ true
  unfolding is_end
  end_none h = rw (drop_of_length-le s h)

  pub end_byte : at < length s → is_end (drop at s) ≡ eqb (get_or s at 0) comma
  unfolding is_end
  end_byte h = rw (drop-cons s at 0 h)

-- No byte of another value than 0 stands past the end.
pub none_there : (s : List ℕ) (at : ℕ) → length s ≤ at → eqb (get_or s at 0) dash ≡ false
none_there s at h = rw (get_or-eq_default s 0 {n = at} h)

pub dash_there : (s : List ℕ) (at : ℕ) → eqb (get_or s at 0) dash ≡ true → at < length s
dash_there s at e =
    elim (order at (length s)) [
      | below l ↦ l
      | equal l ↦ absurd (false≢true (sym (none_there s at (omega arith)) ∙ e))
      | above l ↦ absurd (false≢true (sym (none_there s at (omega arith)) ∙ e))
    ]
