-- The words of a new book: its entries after the header's place, zeros after them, and the header. Assumes nothing.
use mathlib.Core.Path.{◌≡◌, ap, ◌∙◌}
use mathlib.Core.List.{List, ◌++◌, append-nil}
use Prim.Native.Nat.{ℕ, ◌+◌, ◌-◌, ◌*◌, ◌≤◌}
use native.Mathlib.Omega.{arith}
use lib.ListN.{length, take, drop, replicate, length-append, length-take, length-replicate, drop_of_length-le}
use lib.Seq.{sets, sets-eq, length-sets, drop_at}
use Rattle.book_words.specs.Layout.{header_words, entry_words, header, words_of_header, words_of, book_of}
use Rattle.book_words.specs.declared.Entry.{Entry}
use Rattle.book_words.proofs.BookWords.{length_words}
use Rattle.slice_laws.proofs.Slices.{sets_append}

-- Some words set before all others.
heads :
    (new head ws : List ℕ) (k : ℕ)
    → length head ≡ k
    → k ≤ length new
    → k + length ws ≡ length new
    → sets (sets new k ws) 0 head ≡ head ++ ws
heads new head ws k e h l =
    let first : length (take k new) ≡ k = length-take k new ∙ omega arith in
    let all : sets new k ws ≡ take k new ++ ws =
    sets-eq ws new k (omega arith)
    ∙ ap (λ (x : List ℕ). take k new ++ ws ++ x) (drop_of_length-le new {i = k + length ws} (omega arith))
    ∙ append-nil (take k new ++ ws) in
    let same : length (sets new k ws) ≡ length new = length-sets new k ws in
    sets-eq head (sets new k ws) 0 (omega arith)
    ∙ ap (λ (x : List ℕ). head ++ drop (0 + length head) x) all
    ∙ ap (λ (x : List ℕ). head ++ x) (drop_at (take k new) ws (0 + length head) (omega arith))

-- Entries, zeros and header stored one after the other are a book.
pub book_made :
    (new : List ℕ) (es : List Entry) {a b c : List ℕ} {n : ℕ} (period received latest : ℕ)
    → header_words + length es * entry_words ≤ length new
    → n ≡ length es
    → a ≡ sets new header_words (words_of es)
    → b ≡ sets a (header_words + n * entry_words) (replicate (length a - (header_words + n * entry_words)) 0)
    → c ≡ sets b 0 (words_of_header (header n period received latest))
    → c ≡ book_of (length new) period received latest es
unfolding book_of
book_made new es {a} {b} {c} {n} period received latest h e p q r =
    let zeros : List ℕ = replicate (length new - (header_words + length es * entry_words)) 0 in
    let count : length zeros ≡ length new - (header_words + length es * entry_words) = length-replicate _ 0 in
    let same : length (sets new header_words (words_of es)) ≡ length new = length-sets new header_words (words_of es) in
    let place : header_words + length es * entry_words ≡ header_words + length (words_of es) = omega (arith, length_words es) in
    let cleared : b ≡ sets new header_words (words_of es ++ zeros) =
    q
    ∙ rw (p, e, same) (ap (λ (i : ℕ). sets (sets new header_words (words_of es)) i zeros) place)
    ∙ sets_append new header_words (words_of es) zeros in
    let head : List ℕ = words_of_header (header (length es) period received latest) in
    r
    ∙ ap (λ (x : ℕ). sets b 0 (words_of_header (header x period received latest))) e
    ∙ ap (λ (x : List ℕ). sets x 0 head) cleared
    ∙ heads new head (words_of es ++ zeros) header_words (omega arith) (omega arith)
    (omega (arith, length-append (words_of es) zeros, length_words es))
