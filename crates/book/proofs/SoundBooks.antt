-- A sound book is the book of its length, header and entries. Assumes nothing.
use mathlib.Core.Path.{◌≡◌, refl, ap, ap₂, sym, ◌∙◌}
use mathlib.Core.Bool.{true}
use mathlib.Core.List.{List, [], ◌∷◌, ◌++◌}
use Prim.Native.Nat.{ℕ, zero, suc, ◌+◌, ◌-◌, ◌*◌, ◌≤◌}
use borrow.Author.Tests.{eqb-true}
use lib.Dec.{eqb}
use lib.ListN.{length, drop, replicate, length-drop}
use lib.Seq.{drop_at, drop-append-add}
use Rattle.dial_code.proofs.Tests.{both}
use Rattle.calendar.specs.Time.{last_day, last_received_day}
use Rattle.book_words.specs.Layout.{header_words, entry_words, most_period, count_of, period_of, received_of, latest_of, held}
use Rattle.book_words.specs.Layout.{header, header_of, words_of_header, entries_of, words_of, book_of}
use Rattle.book_words.specs.declared.Entry.{Entry}
use Rattle.book_words.proofs.Rows.{of_book, length_entries}
use Rattle.book_words.proofs.BookWords.{length_words, book_words, header_back, entries_back, book_length, words_of_law, headed_words}
use Rattle.book.specs.Soundness.{sound_entries, all_zero, sound}
use Rattle.book.proofs.Headers.{sound_book, book_sound}

zeros_clear : (n : ℕ) → all_zero (replicate n 0) ≡ true
unfolding all_zero
zeros_clear zero = refl
zeros_clear (suc n) = zeros_clear n

clear_zeros : (l : List ℕ) → all_zero l ≡ true → l ≡ replicate (length l) 0
unfolding all_zero
clear_zeros [] h = refl
clear_zeros (w ∷ l) h =
    let a = both (eqb w 0) (all_zero l) h in
    ap₂ ◌∷◌ (eqb-true w 0 a.0) (clear_zeros l a.1)

module _ (len period received latest : ℕ) (es : List Entry) where
  unused : all_zero (drop (header_words + length es * entry_words) (book_of len period received latest es)) ≡ true
  unfolding book_of
  unused =
      let zs : List ℕ = replicate (len - (header_words + length es * entry_words)) 0 in
      ap all_zero
      (drop-append-add (words_of_header (header (length es) period received latest)) (words_of es ++ zs) (length es * entry_words)
      ∙ drop_at (words_of es) zs (length es * entry_words) (length_words es))
      ∙ zeros_clear (len - (header_words + length es * entry_words))

  -- It is sound where its entries are, they are held, and its header is in range.
  pub sound_back :
      header_words ≤ len
      → length es ≤ held len
      → period ≤ most_period
      → received ≤ last_received_day
      → latest ≤ last_day
      → sound_entries es ≡ true
      → sound (book_of len period received latest es) ≡ true
  sound_back l h p r e s =
      let b = book_length len period received latest es l h in
      let k = header_back len period received latest es in
      book_sound (book_of len period received latest es)
      (rw b l)
      (rw (k.0, b) h)
      (rw k.1 p)
      (rw k.2 r)
      (rw k.3 e)
      (ap sound_entries (entries_back len period received latest es) ∙ s)
      (rw k.0 unused)

-- A sound book is the book of its length, header and entries.
pub book_back :
    (ws : List ℕ)
    → sound ws ≡ true
    → ws ≡ book_of (length ws) (period_of ws) (received_of ws) (latest_of ws) (entries_of ws)
book_back ws s =
    let b = sound_book ws s in
    let m : drop (header_words + count_of ws * entry_words) ws ≡ replicate (length ws - (header_words + count_of ws * entry_words)) 0 =
    clear_zeros _ b.unused ∙ ap (λ (k : ℕ). replicate k 0) (length-drop (header_words + count_of ws * entry_words) ws) in
    headed_words ws b.long
    ∙ ap (λ (l : List ℕ). words_of_header (header_of ws) ++ l)
    (words_of_law ws header_words (count_of ws) b.header.room
    ∙ ap₂ (λ (x : List Entry) (y : List ℕ). words_of x ++ y) (sym (of_book ws)) m)
    ∙ sym
    (book_words (length ws) (period_of ws) (received_of ws) (latest_of ws) (entries_of ws)
    ∙ ap
    (λ (k : ℕ).
    words_of_header (header k (period_of ws) (received_of ws) (latest_of ws))
    ++ (words_of (entries_of ws) ++ replicate (length ws - (header_words + k * entry_words)) 0))
    (length_entries ws))
