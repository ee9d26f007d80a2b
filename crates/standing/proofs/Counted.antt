-- The entries that a sound header counts, and the lines that they add: few, of few bytes, and each with a size. Assumes nothing.
use Rattle.std.proofs.Common.{◌≡◌, ℕ, ◌+◌, ◌*◌, ◌≤◌, Bool, true, false, cond, List, [], ◌∷◌, ◌++◌, length, Some, ap, sym, ◌∙◌, arith, length-append}
use Rattle.varint_encoding.specs.Several.{encode_all, encodable_all, sizes_if_encodable}
use Rattle.varint_encoding.proofs.Several.{all_sizes}
use Rattle.line_writing.specs.LineLayout.{line_fields, encode_line, encode_lines}
use Rattle.line_writing.proofs.LineLayoutLaws.{line_bytes, lines_cons}
use Rattle.notice_line.specs.declared.Line.{Line}
use Rattle.book_words.specs.Layout.{header_words, most_entries, entries_from}
use Rattle.book_words.specs.declared.Entry.{Entry}
use Rattle.book_words.proofs.Rows.{length_rows}
use Rattle.book.specs.Soundness.{headed_count}
use Rattle.book.proofs.Headers.{count_room}
use Rattle.standing.specs.Pass.{stands, entry_line, added_by, passed, lines_by}
use Rattle.standing.proofs.Sizes.{most_line, entry_encodable, passed_few}

-- Their lines are few and of few bytes.
module _ (ws : List ℕ) (day : ℕ) where
  pub lines_few : length (lines_by ws day) ≤ most_entries
  unfolding lines_by
  lines_few =
      let es = entries_from ws header_words (headed_count ws) in
      omega (arith, (passed_few es day).0, length_rows ws header_words (headed_count ws), (count_room ws).1)

  pub bytes_most : length (encode_lines (lines_by ws day)) ≤ most_line * length (lines_by ws day)
  unfolding lines_by
  bytes_most = (passed_few (entries_from ws header_words (headed_count ws)) day).1

  pub bytes_few : length (encode_lines (lines_by ws day)) ≤ most_line * most_entries
  bytes_few = omega (arith, bytes_most, lines_few)

-- Each of some lines has an encoding.
abbrev pub AllEncodable : List Line → Type 0
AllEncodable [] = Unit {0}
AllEncodable (l ∷ ls) = (encodable_all (line_fields l) ≡ true) × AllEncodable ls

pub passed_encodable : (es : List Entry) (day : ℕ) → AllEncodable (passed es day)
unfolding passed added_by
passed_encodable [] day = tt
passed_encodable (e ∷ es) day = go (stands e es day) (passed_encodable es day)
  where
    go : (t : Bool) → AllEncodable (passed es day) → AllEncodable (cond t (entry_line e ∷ []) [] ++ passed es day)
    go true h = (entry_encodable e, h)
    go false h = h

pub lines_encodable : (ws : List ℕ) (day : ℕ) → AllEncodable (lines_by ws day)
unfolding lines_by
lines_encodable ws day = passed_encodable (entries_from ws header_words (headed_count ws)) day

-- The first of them has its size, and the others have theirs.
pub first_sized : (l : Line) (ls rest : List Line) (size : ℕ) → ls ≡ l ∷ rest → AllEncodable ls → sizes_if_encodable (line_fields l) ≡ Some size
    → (length (encode_lines ls) ≡ size + length (encode_lines rest)) × AllEncodable rest
first_sized l ls rest size e h f =
    let h : AllEncodable (l ∷ rest) = rw e at h in
    let n : Some (length (encode_all (line_fields l))) ≡ Some size = sym (all_sizes (line_fields l) h.0) ∙ f in
    let m : length (encode_all (line_fields l)) ≡ size = cc in
    rw e (omega (arith, ap length (lines_cons l rest), length-append (encode_line l) (encode_lines rest), ap length (line_bytes l)), h.1)
