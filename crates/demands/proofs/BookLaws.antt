-- The laws of sound books stated again in full: what the search finds is the longest match, a lookup depends on the statuses
-- alone, and statuses and header determine a book's words. Assumes nothing.
use mathlib.Core.Path.{◌≡◌}
use mathlib.Core.Bool.{true}
use mathlib.Core.List.{List}
use Prim.Native.Nat.{ℕ}
use lib.ListN.{length}
use Rattle.dial_code.specs.Key.{key, digits_of_key}
use Rattle.rate.specs.declared.Offer.{Offer}
use Rattle.book_words.specs.Layout.{period_of, received_of, latest_of, entries_of}
use Rattle.book.specs.Soundness.{sound}
use Rattle.book.specs.Status.{status_in, offer_in}
use Rattle.longest_match.specs.Match.{matched}
use Rattle.longest_match.specs.Search.{best_found}
use Rattle.longest_match.proofs.Matching as matching
use Rattle.book.proofs.Unique as unique

pub best_found_law :
    (ws : List ℕ) (w day : ℕ)
    → sound ws ≡ true
    → key (digits_of_key w) ≡ w
    → best_found ws w day ≡ matched (λ k. offer_in (entries_of ws) k day) (digits_of_key w)
best_found_law = matching.best_found_law

pub by_statuses : (f g : ℕ → Offer) (ds : List ℕ) → ((k : ℕ) → f k ≡ g k) → matched f ds ≡ matched g ds
by_statuses = matching.matched_same

pub same_words :
    (ws vs : List ℕ)
    → sound ws ≡ true
    → sound vs ≡ true
    → length ws ≡ length vs
    → period_of ws ≡ period_of vs
    → received_of ws ≡ received_of vs
    → latest_of ws ≡ latest_of vs
    → ((x d : ℕ) → status_in (entries_of ws) x d ≡ status_in (entries_of vs) x d)
    → ws ≡ vs
same_words = unique.unique_books
