-- Writing numbers and lines where there is room, and the whole pass over a book's entries. Assumes nothing.
use mathlib.Core.Path.{◌≡◌, ap, sym, ◌∙◌}
use mathlib.Core.Bool.{true}
use mathlib.Core.List.{List, ◌∷◌, ◌++◌}
use Prim.Native.Nat.{ℕ, ◌+◌, ◌*◌, ◌≤◌}
use native.Mathlib.Omega.{arith}
use lib.ListN.{length, length-append}
use lib.Seq.{sets, sets-eq, length-sets}
use Rattle.varint_encoding.specs.Several.{encode_all, encodable_all}
use Rattle.varint_writing.specs.Writing.{answer_all, leaves_all}
use Rattle.varint_writing.specs.declared.WriteError.{WriteError}
use Rattle.varint_writing.proofs.Writes.{writes}
use Rattle.slice_laws.proofs.Slices.{sets_append}
use Rattle.line_writing.specs.LineLayout.{line_fields, encode_line, encode_lines}
use Rattle.notice_line.specs.declared.Line.{Line}
use Rattle.line_writing.proofs.LineLayoutLaws.{line_bytes, lines_cons}
use Rattle.book_words.specs.Layout.{header_words, most_entries, entries_from, entries_of}
use Rattle.book.specs.Soundness.{sound}
use Rattle.book_words.specs.declared.Entry.{Entry}
use Rattle.book_words.proofs.Rows.{of_book}
use Rattle.book.proofs.Headers.{sound_count}
use Rattle.book.proofs.SoundLists.{entries_sound}
use Rattle.standing.specs.Pass.{passed, lines_by}
use Rattle.standing.proofs.Sizes.{most_line}
use Rattle.standing.proofs.Counted.{AllEncodable, lines_few, bytes_most}
use Rattle.listing.specs.List.{standing_lines}
use Rattle.listing.proofs.Passing.{in_one_pass}
use Rattle.std.proofs.Common.{Result, Ok}

-- Numbers that have an encoding and room are written: the answer and the bytes left.
pub written : (s : List ℕ) (at : ℕ) (ns : List ℕ) {bytes l : List ℕ} {r : Result ℕ WriteError} → encodable_all ns ≡ true
    → bytes ≡ encode_all ns → at + length bytes ≤ length s → r ≡ answer_all (length s) at ns → l ≡ leaves_all s at ns
    → (r ≡ Ok (at + length bytes)) × (l ≡ sets s at bytes)
written s at ns h q room e f =
    let u : at + length (encode_all ns) ≤ length s = rw (← q) room in
    let w = writes s at ns h u in
    (e ∙ w.0 ∙ rw q, f ∙ w.1 ∙ sym (sets-eq (encode_all ns) s at u) ∙ rw q)

-- The first of some lines that have room is written, and the others have room after it: what is left to write gives what it gave before.
pub record Turn (l : Line) (ls rest : List Line) (s : List ℕ) (at : ℕ) (r : Result ℕ WriteError) (m : List ℕ) : Type 0 where
  pub end : ℕ
  pub answer : r ≡ Ok end
  pub length_left : end + length (encode_lines rest) ≡ at + length (encode_lines ls)
  pub bytes_left : sets m end (encode_lines rest) ≡ sets s at (encode_lines ls)
  pub room : length m ≡ length s
  pub sized : AllEncodable rest

pub turn : (l : Line) (ls rest : List Line) (s : List ℕ) (at : ℕ) {r : Result ℕ WriteError} {m : List ℕ} → ls ≡ l ∷ rest → AllEncodable ls
    → at + length (encode_lines ls) ≤ length s → r ≡ answer_all (length s) at (line_fields l) → m ≡ leaves_all s at (line_fields l)
    → Turn l ls rest s at r m
turn l ls rest s at e h room p q =
    let h : AllEncodable (l ∷ rest) = rw e at h in
    let c : encode_lines ls ≡ encode_line l ++ encode_lines rest = ap encode_lines e ∙ lines_cons l rest in
    let n : length (encode_lines ls) ≡ length (encode_line l) + length (encode_lines rest) =
    ap length c ∙ length-append (encode_line l) (encode_lines rest) in
    let w = written s at (line_fields l) h.0 (line_bytes l) (omega arith) p q in
    record {
      end = at + length (encode_line l);
      answer = w.0;
      length_left = omega arith;
      bytes_left =
          ap (λ (k : List ℕ). sets k (at + length (encode_line l)) (encode_lines rest)) w.1
          ∙ sets_append s at (encode_line l) (encode_lines rest)
          ∙ ap (sets s at) (sym c);
      room = ap length w.1 ∙ length-sets s at (encode_line l);
      sized = h.1;
    }

-- The whole pass over a sound book gives the rule's lines, few of them and of few bytes.
module _ (ws : List ℕ) (day : ℕ) (s : sound ws ≡ true) where
  pub whole : standing_lines (entries_of ws) day ≡ lines_by ws day
  unfolding lines_by
  whole =
      in_one_pass (entries_of ws) day (entries_sound ws s)
      ∙ ap (λ (es : List Entry). passed es day) (of_book ws)
      ∙ ap (λ (n : ℕ). passed (entries_from ws header_words n) day) (sym (sound_count ws s))

  pub few : (length (standing_lines (entries_of ws) day) ≤ most_entries)
      × (length (encode_lines (standing_lines (entries_of ws) day)) ≤ most_line * length (standing_lines (entries_of ws) day))
  few = rw whole (lines_few ws day, bytes_most ws day)
