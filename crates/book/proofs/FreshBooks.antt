-- Fresh books: the words left, and that they are a sound book of no entries. Assumes nothing.
use mathlib.Core.Path.{◌≡◌, refl, ap, ◌∙◌}
use mathlib.Core.Bool.{Bool, true, false, cond}
use mathlib.Core.List.{List, [], ◌++◌, append-nil}
use Prim.Native.Nat.{ℕ, ◌+◌, ◌-◌, ◌≤◌}
use native.Mathlib.Nat.{sub-zero}
use native.Mathlib.Omega.{arith}
use borrow.Author.Tests.{leb-true, ltb-false}
use lib.Dec.{leb, ltb}
use lib.ListN.{length, replicate, drop_of_length-le, length-replicate}
use lib.Seq.{sets, sets-eq}
use Rattle.book_words.specs.Layout.{header_words, most_period, header, words_of_header, entries_of}
use Rattle.book.specs.Soundness.{sound}
use Rattle.book.specs.Answers.{fresh_answer, fresh_book}
use Rattle.book.proofs.Rules.{no_entries}
use Rattle.book_words.proofs.Places.{drop_replicate}
use Rattle.book_words.proofs.BookWords.{entries_back}
use Rattle.book.proofs.SoundBooks.{sound_back}
use Rattle.refusal.specs.declared.Refusal.{Refusal}
use Rattle.refusal.specs.declared.Refusal.TheVariants.{BookTooShort, PeriodTooLong}
use Rattle.std.proofs.Common.{Result, Ok, Err}

-- every word set to 0
all_clear : (ws : List ℕ) → sets ws 0 (replicate (length ws - 0) 0) ≡ replicate (length ws) 0
all_clear ws =
    let l : length (replicate {A = ℕ} (length ws) 0) ≡ length ws = length-replicate (length ws) 0 in
    rw sub-zero
    (sets-eq (replicate (length ws) 0) ws 0 (omega arith)
    ∙ rw (drop_of_length-le ws {i = 0 + length (replicate {A = ℕ} (length ws) 0)} (omega arith)) (append-nil _))

-- A header written over cleared words leaves a book of no entries.
pub cleared :
    (ws : List ℕ) (period : ℕ)
    → header_words ≤ length ws
    → sets (sets ws 0 (replicate (length ws - 0) 0)) 0 (words_of_header (header 0 period 0 0)) ≡ fresh_book (length ws) period
unfolding fresh_book
cleared ws period l =
    let head = words_of_header (header 0 period 0 0) in
    let zeros : List ℕ = replicate (length ws) 0 in
    let long : length zeros ≡ length ws = length-replicate (length ws) 0 in
    ap (λ (x : List ℕ). sets x 0 head) (all_clear ws)
    ∙ sets-eq head zeros 0 (omega arith)
    ∙ ap (λ (x : List ℕ). head ++ x) (drop_replicate header_words (length ws) 0)

-- A fresh book that is not refused is the words left: a sound book of the length lent, with no entries, all of it closed.
module _ (len period : ℕ) (e : fresh_answer len period ≡ Ok tt) where
  pub accepted : (period ≤ most_period) × (header_words ≤ len)
  unfolding fresh_answer
  accepted = go (leb period most_period) refl (ltb len header_words) refl e
    where
      go : (t : Bool) → leb period most_period ≡ t → (u : Bool) → ltb len header_words ≡ u
          → ◌≡◌ {A = Result (Unit {0}) Refusal} (cond t (cond u (Err BookTooShort) (Ok tt)) (Err PeriodTooLong)) (Ok tt)
          → (period ≤ most_period) × (header_words ≤ len)
      go true p true q z = absurd (cc)
      go true p false q z = (leb-true period most_period p, ltb-false len header_words q)
      go false p u q z = absurd (cc)

  pub fresh_sound : sound (fresh_book len period) ≡ true
  unfolding fresh_book
  fresh_sound =
      sound_back len period 0 0 [] accepted.1 (omega arith) accepted.0 (omega arith) (omega arith) no_entries

-- It has no entries, and every code is closed on every day.
pub fresh_entries : (len period : ℕ) → entries_of (fresh_book len period) ≡ []
unfolding fresh_book
fresh_entries len period = entries_back len period 0 0 []
