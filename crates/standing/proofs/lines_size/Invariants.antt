-- The sizes added up and those of the lines left come to the bytes of all, and each line left has a size.
use Rattle.std.proofs.Common.{◌≡◌, ◌+◌, length}
use Rattle.line_writing.specs.LineLayout.{encode_lines}
use Rattle.standing.specs.Pass.{lines_by}
use Rattle.standing.proofs.Counted.{AllEncodable}
use Rattle.standing.proofs.lines_size.Given as goal

abbrev pub invariant-loop-line : goal.invariant-loop-line
invariant-loop-line l = record {
  sizes : l.size + length (encode_lines l.line-iterator) ≡ length (encode_lines (lines_by l.words l.day));
  sized : AllEncodable l.line-iterator;
}
