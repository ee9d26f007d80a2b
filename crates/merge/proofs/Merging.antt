-- The merge of a book and a notice, one line a turn: merging what is left of the old entries with the lines that are left, after
-- the entries put so far, comes to the new book's entries. Assumes nothing.
use mathlib.Core.Path.{◌≡◌, refl, ap, sym, ◌∙◌}
use mathlib.Core.List.{List, [], ◌∷◌, append-nil}
use Prim.Native.Nat.{ℕ, ◌+◌, ◌*◌, ◌≤◌, min, max}
use native.Mathlib.Omega.{arith}
use lib.ListN.{length}
use lib.Seq.{sets}
use Rattle.dial_code.specs.Key.{keys_end}
use Rattle.notice_header.specs.HeaderRule.{most_lines}
use Rattle.notice_line.specs.declared.Line.{Line}
use Rattle.book_words.specs.Layout.{header_words, entry_words, latest_of, entries_from, words_of, put_entries}
use Rattle.book.specs.Soundness.{headed_count}
use Rattle.book_words.specs.declared.Entry.{Entry}
use Rattle.book_words.proofs.Places.{puts_all}
use Rattle.effect.specs.Lines.{found_in, effective_by, change_by, changes_by, latest_by}
use Rattle.closing.specs.Closings.{closes_by}
use Rattle.effect.specs.declared.Plan.{Plan}
use Rattle.merge_rule.specs.Passes.{gap_below, line_entries, line_rest, merged}
use Rattle.notice.specs.Lines.{lines_at}
use Rattle.merge.specs.Merge.{merged_by, merged_answer, merged_leaves}
use Rattle.merge.specs.declared.Merged.{Merged}
use Rattle.book_words.proofs.Stores.{Writing, writing_all, writing_on, writing_counted, writing_end}

-- The entries that a line puts, those after the last line, and those that the rest of the merge puts, of the old entries left.
abbrev pub line_puts : Plan → List ℕ → List Entry → Entry → List Entry
line_puts p marks es c = line_entries c (closes_by p marks) p.closing es

abbrev pub gap_puts : Plan → List ℕ → List Entry → List Entry
gap_puts p marks es = gap_below keys_end (closes_by p marks) p.closing es

abbrev pub rest_puts : List ℕ → Plan → List ℕ → List Entry → List Line → List Entry
rest_puts old p marks es ls = merged keys_end (closes_by p marks) p.closing es (changes_by p (found_in old) ls)

-- A merge part of the way: the old entries left, how many the new book has, the latest day, and the lines left.
pub record Merging
    (old : List ℕ) (p : Plan) (marks new₀ : List ℕ) (all : List Line)
    (new : List ℕ) (es : List Entry) (count latest : ℕ) (ls : List Line) : Type 0 where
  pub dated : latest_by p (found_in old) latest ls ≡ latest_by p (found_in old) (latest_of old) all
  pub puts : Writing new₀ 0 (merged_by old p marks all) new count (rest_puts old p marks es ls)

-- Where it starts.
pub merge_starts :
    (old : List ℕ) (p : Plan) (marks new : List ℕ) (ls : List Line) {es : List Entry} {latest : ℕ}
    → es ≡ entries_from old header_words (headed_count old)
    → latest ≡ latest_of old
    → Merging old p marks new ls new es 0 latest ls
unfolding merged_by
merge_starts old p marks new ls e f = rw (e, f) (record { dated = refl; puts = writing_all new 0 _ })

module _
    {old : List ℕ} {p : Plan} {marks new₀ : List ℕ} {all : List Line}
    {new : List ℕ} {es : List Entry} {count latest : ℕ} {ls : List Line}
    (i : Merging old p marks new₀ all new es count latest ls) where
  -- The next line: its entries are put, and the others are left.
  pub merge_next :
      {l : Line} {others : List Line}
      → ls ≡ l ∷ others
      → {c : Entry}
      → c ≡ change_by p (found_in old) l
      → {day : ℕ}
      → day ≡ max latest c.day
      → {fs : List Entry}
      → fs ≡ line_rest c es
      → {to : ℕ}
      → to ≡ count + length (line_puts p marks es c)
      → {next : List ℕ}
      → next ≡ put_entries new count (line_puts p marks es c)
      → Merging old p marks new₀ all next fs to day others
  unfolding merged changes_by change_by latest_by
  merge_next {l} {others} s {c} e d q k n =
      let day : c.day ≡ effective_by p (found_in old) l = ap (λ (x : Entry). x.day) e in
      record {
        dated = rw (d, day) (rw s at i.dated);
        puts = rw q (writing_on i.puts (line_puts p marks es c) (rest_puts old p marks (line_rest c es) others) _ (rw (s, e)) k n);
      }

  -- The end: no line is left, and the entries below every key are all that are.
  module _ (h : ls ≡ []) where
    pub merge_dated : latest ≡ latest_by p (found_in old) (latest_of old) all
    unfolding latest_by
    merge_dated = rw h at i.dated

    module _
        {to : ℕ}
        (q : to ≡ count + length (gap_puts p marks es))
        {next : List ℕ}
        (n : next ≡ put_entries new count (gap_puts p marks es)) where
      finished : Writing new₀ 0 (merged_by old p marks all) next to []
      unfolding merged changes_by
      finished = writing_on i.puts (gap_puts p marks es) [] to (rw h (sym (append-nil _))) q n

      pub merge_counted : to ≡ length (merged_by old p marks all)
      merge_counted = omega (arith, writing_counted finished refl)

      pub merge_written : next ≡ put_entries new₀ 0 (merged_by old p marks all)
      merge_written = writing_end finished refl

-- The same for callers, where there are at most so many lines.
module _ (ws : List ℕ) (p : Plan) (marks s : List ℕ) (start lines : ℕ) (h : lines ≤ most_lines) where
  few : min lines most_lines ≡ lines
  few = omega arith

  pub answered :
      {r : Merged}
      → r ≡ merged_answer ws p marks s start lines
      → (r.count ≡ length (merged_by ws p marks (lines_at lines s start)))
      × (r.latest ≡ latest_by p (found_in ws) (latest_of ws) (lines_at lines s start))
  unfolding merged_answer
  answered e =
      let f = rw few at e in
      (ap (λ (x : Merged). x.count) f, ap (λ (x : Merged). x.latest) f)

  pub written :
      (new : List ℕ) {next : List ℕ}
      → next ≡ merged_leaves ws p marks s start lines new
      → next ≡ put_entries new 0 (merged_by ws p marks (lines_at lines s start))
  unfolding merged_leaves
  written new e = rw few at e

  pub written_all :
      (new : List ℕ) {next : List ℕ}
      → header_words + length (merged_by ws p marks (lines_at lines s start)) * entry_words ≤ length new
      → next ≡ merged_leaves ws p marks s start lines new
      → next ≡ sets new header_words (words_of (merged_by ws p marks (lines_at lines s start)))
  written_all new room e = written new e ∙ puts_all new 0 (merged_by ws p marks (lines_at lines s start)) (omega arith)
