-- A reader that stands in a notice and gives its numbers one by one (document 01, "Notice layout"): where it stands next.
use Rattle.std.specs.Prelude.{ℕ, Ok, Err}
use Rattle.varint.specs.Reading.{read_number}
use Rattle.varint_reader.specs.declared.Reader.{Reader}
use Rattle.refusal.specs.Steps.{Read}

-- After the number read at a position; where none could be read, the position itself.
abbrev pub place_after : ℕ → Read ℕ → ℕ
place_after at (Ok (n, next)) = next
place_after at (Err e) = at

-- The reader after the number that it stands at: the same bytes.
abbrev pub moved_on : Reader → Reader
moved_on r = record { src = r.src; at = place_after r.at (read_number r.src.now r.at) }
