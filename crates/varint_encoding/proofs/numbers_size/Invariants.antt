-- numbers_size: the numbers so far have an encoding, and their bytes are counted. Assumes nothing.
use Rattle.std.proofs.Common.{◌≡◌, ◌*◌, ◌≤◌, true, length, take}
use Rattle.varint_encoding.specs.Several.{encode_all, encodable_all}
use Rattle.varint_encoding.proofs.numbers_size.Given as goal

abbrev pub invariant-loop-n : goal.invariant-loop-n
invariant-loop-n l =
    (encodable_all (take l.n-index l.numbers) ≡ true)
    × (l.size ≡ length (encode_all (take l.n-index l.numbers)))
    × (l.size ≤ 9 * l.n-index)
