-- Which book can be used. Assumes nothing.
use mathlib.Core.Path.{◌≡◌, refl, sym, ◌∙◌}
use mathlib.Core.Bool.{Bool, true, false, cond}
use mathlib.Core.List.{List}
use Prim.Native.Nat.{ℕ, ◌≤◌}
use borrow.Author.Tests.{le-ltb}
use lib.Dec.{ltb}
use lib.ListN.{length}
use Rattle.book_words.specs.Layout.{header_words}
use Rattle.book.specs.Soundness.{sound}
use Rattle.book.specs.Answers.{check_book}
use Rattle.refusal.specs.declared.Refusal.{Refusal}
use Rattle.refusal.specs.declared.Refusal.TheVariants.{BookNotSound, BookTooShort}
use Rattle.std.proofs.Common.{Result, Ok, Err}

abbrev Check : Type 0
Check = Result (Unit {0}) Refusal

check_test : (ws : List ℕ) → check_book ws ≡ cond (ltb (length ws) header_words) (Err BookTooShort) (cond (sound ws) (Ok tt) (Err BookNotSound))
unfolding check_book
check_test ws = refl

-- A sound book with words for a header can be used, and one that can be used is sound.
pub usable_book : (ws : List ℕ) → header_words ≤ length ws → sound ws ≡ true → check_book ws ≡ Ok tt
usable_book ws h s = check_test ws ∙ rw (le-ltb (length ws) header_words h, s)

pub usable_sound : (ws : List ℕ) → check_book ws ≡ Ok tt → sound ws ≡ true
usable_sound ws e = go (ltb (length ws) header_words) (sound ws) refl (sym (check_test ws) ∙ e)
  where
    go : (t u : Bool) → sound ws ≡ u → ◌≡◌ {A = Check} (cond t (Err BookTooShort) (cond u (Ok tt) (Err BookNotSound))) (Ok tt) → sound ws ≡ true
    go true u h q = absurd (cc)
    go false true h q = h
    go false false h q = absurd (cc)
