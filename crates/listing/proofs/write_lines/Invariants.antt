-- The lines left, stored from `end` on, end where all lines stored from `from` on end, and give what those give; each has an
-- encoding.
use Rattle.std.proofs.Common.{◌≡◌, ◌+◌, length}
use Rattle.std.proofs.lemmas.List.Edits.{sets}
use Rattle.line_writing.specs.LineLayout.{encode_lines}
use Rattle.standing.specs.Pass.{lines_by}
use Rattle.standing.proofs.Counted.{AllEncodable}
use Rattle.listing.proofs.write_lines.Given as goal

abbrev pub invariant-loop-line : goal.invariant-loop-line
invariant-loop-line l = record {
  length_left : l.end + length (encode_lines l.line-iterator) ≡ l.from + length (encode_lines (lines_by l.words l.day));
  bytes_left : sets l.out l.end (encode_lines l.line-iterator) ≡ sets l.initial.out l.from (encode_lines (lines_by l.words l.day));
  sized : AllEncodable l.line-iterator;
}
