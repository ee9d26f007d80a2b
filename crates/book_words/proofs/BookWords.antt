-- A book's words and its entries, header and length. Assumes nothing.
use mathlib.Core.Path.{◌≡◌, refl, ap, ap₂, sym, ◌∙◌}
use mathlib.Core.List.{List, [], ◌∷◌, ◌++◌}
use Prim.Native.Nat.{ℕ, zero, suc, ◌+◌, ◌-◌, ◌*◌, ◌/◌, ◌≤◌, min}
use native.Mathlib.Nat.{add-zero}
use native.Mathlib.Omega.{arith}
use lib.ListN.{length, get_or, drop, replicate, length-append, length-replicate}
use lib.Seq.{get_or-drop, drop-drop, drop-cons}
use Rattle.book_words.specs.Layout.{header_words, entry_words, most_entries, count_of, period_of, received_of, latest_of, held}
use Rattle.book_words.specs.Layout.{header, header_of, words_of_header, entry, entry_at, entries_from, entries_of, words_of, book_of}
use Rattle.book_words.specs.declared.Entry.{Entry}
use Rattle.book_words.proofs.Rows.{of_book}

-- So many entries are held where there are at most the most entries, and words for all of them.
pub held_fits : (n len : ℕ) → header_words ≤ len → n ≤ held len → (n ≤ most_entries) × (header_words + n * entry_words ≤ len)
unfolding held
held_fits n len h e = (omega arith, omega arith)

pub fits_held : (n len : ℕ) → header_words ≤ len → n ≤ most_entries → header_words + n * entry_words ≤ len → n ≤ held len
unfolding held
fits_held n len h m e = omega arith

-- No entry is left out where so many are held.
pub all_held :
    (ws : List ℕ) (n : ℕ)
    → n ≤ held (length ws)
    → entries_from ws header_words (min n ((length ws - header_words) / entry_words)) ≡ entries_from ws header_words n
unfolding held
all_held ws n h = ap (entries_from ws header_words) (omega arith)

-- the i-th word from a place on
word_at : (ws : List ℕ) (at i : ℕ) {l : List ℕ} → drop at ws ≡ l → get_or ws (at + i) 0 ≡ get_or l i 0
word_at ws at i q = sym (get_or-drop at ws i 0) ∙ ap (λ (l : List ℕ). get_or l i 0) q

rows_of :
    (ws : List ℕ) (at : ℕ) (es : List Entry) (rest : List ℕ)
    → drop at ws ≡ words_of es ++ rest
    → entries_from ws at (length es) ≡ es
unfolding entries_from entry_at words_of
rows_of ws at [] rest q = refl
rows_of ws at (e ∷ es) rest q =
    let k : get_or ws at 0 ≡ e.key = rw add-zero at (word_at ws at 0 q) in
    let d : get_or ws (at + 1) 0 ≡ e.day = word_at ws at 1 q in
    let o : get_or ws (at + 2) 0 ≡ e.offer = word_at ws at 2 q in
    ap₂ ◌∷◌
    (λ i. entry (k i) (d i) (o i))
    (rows_of ws (at + entry_words) es rest (sym (drop-drop entry_words at ws) ∙ ap (drop entry_words) q))

-- The entries' words are three an entry.
pub length_words : (es : List Entry) → length (words_of es) ≡ length es * entry_words
unfolding words_of
length_words [] = refl
length_words (e ∷ es) = omega (arith, length_words es)

-- The words of a book of so many words, with a header and entries.
module _ (len period received latest : ℕ) (es : List Entry) where
  pub book_words : book_of len period received latest es
      ≡ words_of_header (header (length es) period received latest)
      ++ (words_of es ++ replicate (len - (header_words + length es * entry_words)) 0)
  unfolding book_of
  book_words = refl

  -- Header and entries read back.
  pub header_back :
      let ws = book_of len period received latest es in
      (count_of ws ≡ length es) × (period_of ws ≡ period) × (received_of ws ≡ received) × (latest_of ws ≡ latest)
  unfolding book_of
  header_back = (refl, refl, refl, refl)

  pub entries_back : entries_of (book_of len period received latest es) ≡ es
  unfolding book_of
  entries_back = of_book _ ∙ rows_of _ header_words es _ refl

  -- It is as long as it says, where the entries are held.
  pub book_length : header_words ≤ len → length es ≤ held len → length (book_of len period received latest es) ≡ len
  unfolding book_of
  book_length l h =
      rw (length-append (words_of es), length_words es, length-replicate {A = ℕ})
      (omega (arith, (held_fits (length es) len l h).1))

-- Words from a place on, as entries and what is left.
pub words_of_law :
    (ws : List ℕ) (at n : ℕ)
    → at + n * entry_words ≤ length ws
    → drop at ws ≡ words_of (entries_from ws at n) ++ drop (at + n * entry_words) ws
unfolding entries_from entry_at words_of
words_of_law ws at zero h = rw add-zero
words_of_law ws at (suc n) h =
    let e : at + suc n * entry_words ≡ at + entry_words + n * entry_words = omega arith in
    let p : suc at ≡ at + 1 = omega arith in
    let q : suc (at + 1) ≡ at + 2 = omega arith in
    let r : suc (at + 2) ≡ at + entry_words = omega arith in
    rw (drop-cons ws at 0 (omega arith), p, drop-cons ws (at + 1) 0 (omega arith), q, drop-cons ws (at + 2) 0 (omega arith), r, e)
    (ap (λ (l : List ℕ). get_or ws at 0 ∷ get_or ws (at + 1) 0 ∷ get_or ws (at + 2) 0 ∷ l)
    (words_of_law ws (at + entry_words) n (omega arith)))

-- The header's words, and the others.
pub headed_words : (ws : List ℕ) → header_words ≤ length ws → ws ≡ words_of_header (header_of ws) ++ drop header_words ws
headed_words [] h = absurd (omega arith)
headed_words (a ∷ []) h = absurd (omega arith)
headed_words (a ∷ b ∷ []) h = absurd (omega arith)
headed_words (a ∷ b ∷ k ∷ []) h = absurd (omega arith)
headed_words (a ∷ b ∷ k ∷ d ∷ ws) h = refl
