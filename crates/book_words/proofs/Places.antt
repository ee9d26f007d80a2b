-- Words read and written at any place: past the end a word is 0, and an entry is put whole or not at all. Assumes nothing.
use mathlib.Core.Path.{◌≡◌, refl, ap, ◌∙◌}
use mathlib.Core.Bool.{Bool, true, false, cond}
use mathlib.Core.List.{List, [], ◌∷◌, ◌++◌}
use Prim.Native.Nat.{ℕ, zero, suc, ◌+◌, ◌-◌, ◌*◌, ◌≤◌, ◌<◌}
use native.Mathlib.Nat.{sub-zero}
use native.Mathlib.Numerals.{add-one}
use native.Mathlib.Omega.{arith}
use borrow.Author.Tests.{le-leb, lt-leb}
use lib.Dec.{leb}
use lib.ListN.{length, set, drop, replicate}
use lib.Seq.{sets, length-sets}
use Rattle.slice_laws.proofs.Slices.{sets_append}
use Rattle.book_words.specs.Layout.{header_words, entry_words, words_of, put_entry, put_entries}
use Rattle.book_words.specs.declared.Entry.{Entry}

pub drop_replicate : (k n a : ℕ) → drop k (replicate n a) ≡ replicate (n - k) a
drop_replicate zero n a = rw sub-zero
drop_replicate (suc k) zero a =
    let e : 0 - suc k ≡ 0 = omega arith in
    rw e
drop_replicate (suc k) (suc n) a =
    let e : suc n - suc k ≡ n - k = omega arith in
    rw e (drop_replicate k n a)

-- An entry is the words of its fields.
pub one_stored :
    (ws : List ℕ) (at : ℕ) (e : Entry)
    → set (set (set ws at e.key) (at + 1) e.day) (at + 2) e.offer ≡ sets ws at (words_of (e ∷ []))
unfolding words_of
one_stored ws at e =
    let two : at + 2 ≡ suc (suc at) = omega arith in
    rw (add-one, two)

-- An entry put where there are words for all of it, and where there are not.
module _ (ws : List ℕ) (at : ℕ) (e : Entry) where
  pub put_there : at + entry_words ≤ length ws → put_entry ws at e ≡ sets ws at (words_of (e ∷ []))
  unfolding put_entry
  put_there h = rw (le-leb (at + entry_words) (length ws) h)

  pub not_put : length ws < at + entry_words → put_entry ws at e ≡ ws
  unfolding put_entry
  not_put h = rw (lt-leb (at + entry_words) (length ws) h)

  length_put : length (put_entry ws at e) ≡ length ws
  unfolding put_entry
  length_put = go (leb (at + entry_words) (length ws))
    where
      go : (t : Bool) → length (cond t (sets ws at (words_of (e ∷ []))) ws) ≡ length ws
      go true = length-sets ws at (words_of (e ∷ []))
      go false = refl

-- Entries put one after the other.
pub length_puts : (ws : List ℕ) (n : ℕ) (es : List Entry) → length (put_entries ws n es) ≡ length ws
unfolding put_entries
length_puts ws n [] = refl
length_puts ws n (e ∷ es) = length_puts (put_entry ws (header_words + n * entry_words) e) (n + 1) es ∙ length_put ws (header_words + n * entry_words) e

pub puts_none : (ws : List ℕ) (n : ℕ) → put_entries ws n [] ≡ ws
unfolding put_entries
puts_none ws n = refl

pub one_put : (ws : List ℕ) (n : ℕ) (e : Entry) → put_entry ws (header_words + n * entry_words) e ≡ put_entries ws n (e ∷ [])
unfolding put_entries
one_put ws n e = refl

pub puts_append :
    (ws : List ℕ) (n : ℕ) (es fs : List Entry)
    → put_entries (put_entries ws n es) (n + length es) fs ≡ put_entries ws n (es ++ fs)
unfolding put_entries
puts_append ws n [] fs = ap (λ (k : ℕ). put_entries ws k fs) (omega arith)
puts_append ws n (e ∷ es) fs =
    let ws₁ = put_entry ws (header_words + n * entry_words) e in
    ap (λ (k : ℕ). put_entries (put_entries ws₁ (n + 1) es) k fs) (omega arith) ∙ puts_append ws₁ (n + 1) es fs

-- All of them, where there are words for all.
pub puts_all :
    (ws : List ℕ) (n : ℕ) (es : List Entry)
    → header_words + (n + length es) * entry_words ≤ length ws
    → put_entries ws n es ≡ sets ws (header_words + n * entry_words) (words_of es)
unfolding put_entries words_of
puts_all ws n [] h = refl
puts_all ws n (e ∷ es) h =
    let at = header_words + n * entry_words in
    let ws₁ = put_entry ws at e in
    let there = put_there ws at e (omega arith) in
    let place : header_words + (n + 1) * entry_words ≡ at + 3 = omega arith in
    puts_all ws₁ (n + 1) es (omega (arith, length_put ws at e))
    ∙ ap (λ (i : ℕ). sets ws₁ i (words_of es)) place
    ∙ ap (λ (l : List ℕ). sets l (at + 3) (words_of es)) there
    ∙ sets_append ws at (e.key ∷ e.day ∷ e.offer ∷ []) (words_of es)
