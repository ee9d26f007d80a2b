-- put_numbers: the bytes of the numbers so far stand at `at`, and `end` is the position after them. Assumes nothing.
use Rattle.std.proofs.Common.{◌≡◌, ◌+◌, length, take}
use Rattle.std.proofs.lemmas.List.Edits.{sets}
use Rattle.varint_encoding.specs.Several.{encode_all}
use Rattle.varint_writing.proofs.put_numbers.Given as goal

abbrev pub invariant-loop-n : goal.invariant-loop-n
invariant-loop-n l =
    (l.end ≡ l.at + length (encode_all (take l.n-index l.numbers)))
    × (l.out ≡ sets l.initial.out l.at (encode_all (take l.n-index l.numbers)))
