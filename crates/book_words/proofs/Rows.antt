-- Entries by position and count. Assumes nothing.
use mathlib.Core.Path.{◌≡◌, refl, ap, ap₂, sym, ◌∙◌}
use mathlib.Core.List.{List, [], ◌∷◌, map}
use Prim.Native.Nat.{ℕ, zero, suc, ◌+◌, ◌-◌, ◌*◌, ◌/◌, ◌≤◌, ◌<◌, min}
use native.Mathlib.Numerals.{sub-one}
use native.Mathlib.Omega.{arith}
use lib.ListN.{length, length-drop, get_or, take, drop}
use lib.Seq.{get_or-take, get_or-drop, drop-drop}
use lib.Dec.{lit<}
use native.Mathlib.Nat.{add-zero}
use Rattle.book_words.specs.Layout.{header_words, entry_words, no_entry, count_of, entry, row_entry, entry_at, entries_from, entries_of}
use Rattle.book_words.specs.declared.Entry.{Entry}
use Rattle.std.specs.Simd.{first_chunks}
use Rattle.std.proofs.lemmas.List.{length-map, get_or-map, take-map, take_min}

-- The i-th of some entries, counted from 0.
abbrev pub entry_in : List Entry → ℕ → Entry
entry_in es i = get_or es i no_entry

-- The entries of a book, by position and count: none, the first and the others, how many.
pub of_book : (ws : List ℕ) → entries_of ws ≡ entries_from ws header_words (count_of ws)
unfolding entries_of
of_book ws = refl

pub rows_none : (ws : List ℕ) (at n : ℕ) → n ≡ 0 → entries_from ws at n ≡ []
unfolding entries_from
rows_none ws at zero e = refl
rows_none ws at (suc n) e = absurd (omega arith)

pub rows_step : (ws : List ℕ) (at n : ℕ) → 0 < n → entries_from ws at n ≡ entry_at ws at ∷ entries_from ws (at + entry_words) (n - 1)
unfolding entries_from
rows_step ws at zero h = absurd (omega arith)
rows_step ws at (suc n) h = rw sub-one

pub length_rows : (ws : List ℕ) (at n : ℕ) → length (entries_from ws at n) ≡ n
unfolding entries_from
length_rows ws at zero = refl
length_rows ws at (suc n) = ap suc (length_rows ws (at + entry_words) n)

pub length_entries : (ws : List ℕ) → length (entries_of ws) ≡ count_of ws
length_entries ws = ap length (of_book ws) ∙ length_rows ws header_words (count_of ws)

-- The i-th entry stands 3 × i words further on.
pub row_at : (ws : List ℕ) (at n i : ℕ) → i < n → entry_in (entries_from ws at n) i ≡ entry_at ws (at + i * entry_words)
unfolding entries_from
row_at ws at zero i h = absurd (omega arith)
row_at ws at (suc n) zero h = ap (entry_at ws) (omega arith)
row_at ws at (suc n) (suc i) h = row_at ws (at + entry_words) n i (omega arith) ∙ ap (entry_at ws) (omega arith)

-- Words in threes are entries.
pub rows_taken :
    (ws : List ℕ) (at n k : ℕ)
    → k ≤ n
    → map row_entry (take k (first_chunks entry_words n (drop at ws))) ≡ entries_from ws at k
unfolding entries_from entry_at
rows_taken ws at n zero h = refl
rows_taken ws at zero (suc k) h = absurd (omega arith)
rows_taken ws at (suc n) (suc k) h =
    let l : List ℕ = drop at ws in
    let a : get_or (take entry_words l) 0 0 ≡ get_or ws at 0 = rw (get_or-take 3 l 0 0 (lit< tt), get_or-drop at ws 0 0, add-zero) in
    let b : get_or (take entry_words l) 1 0 ≡ get_or ws (at + 1) 0 = rw (get_or-take 3 l 1 0 (lit< tt), get_or-drop at ws 1 0) in
    let d : get_or (take entry_words l) 2 0 ≡ get_or ws (at + 2) 0 = rw (get_or-take 3 l 2 0 (lit< tt), get_or-drop at ws 2 0) in
    let e : map row_entry (take k (first_chunks entry_words n (drop entry_words l))) ≡ entries_from ws (at + entry_words) k =
    ap (λ (m : List ℕ). map row_entry (take k (first_chunks entry_words n m))) (drop-drop entry_words at ws)
    ∙ rows_taken ws (at + entry_words) n k (omega arith) in
    ap₂ ◌∷◌ (λ i. entry (a i) (b i) (d i)) e

-- Rows as entries: how many, the one at a place, the first.
pub as_many_rows : (rows : List (List ℕ)) → length (map row_entry rows) ≡ length rows
as_many_rows rows = length-map rows row_entry

pub row_there :
    (rows : List (List ℕ)) (i : ℕ)
    → i < length (map row_entry rows)
    → row_entry (get_or rows i []) ≡ get_or (map row_entry rows) i no_entry
row_there rows i h =
    let l : i < length rows = omega (arith, as_many_rows rows) in
    sym (get_or-map row_entry rows i [] no_entry l)

pub first_rows :
    (rows : List (List ℕ)) (count k : ℕ)
    → k ≡ min count (length rows)
    → map row_entry (take k rows) ≡ take count (map row_entry rows)
first_rows rows count k e = rw (e, take_min) (sym (take-map row_entry count rows))

-- The words after the header's in threes, and so many of the first entries.
pub rows_first :
    (ws s : List ℕ) (rows : List (List ℕ)) (es : List Entry) (count : ℕ)
    → s ≡ drop header_words ws
    → rows ≡ first_chunks entry_words (length s / entry_words) s
    → length rows ≡ length s / entry_words
    → es ≡ take count (map row_entry rows)
    → es ≡ entries_from ws header_words (min count ((length ws - header_words) / entry_words))
rows_first ws s rows es count e f g h =
    h
    ∙ sym (first_rows rows count (min count (length rows)) refl)
    ∙ rw (g, f, e, length-drop header_words ws)
    (let n = (length ws - header_words) / entry_words in
    rows_taken ws header_words n (min count n) (omega arith))
