-- put_number: the groups of what is left, stored from `i` on, give what the number's groups stored from `at` on give. The measure is
-- what is left. Assumes nothing.
use Rattle.std.proofs.Common.{◌≡◌, ℕ, suc, ◌+◌, ◌<◌, ◌^◌, length}
use Rattle.std.proofs.lemmas.List.Edits.{sets}
use Rattle.varint_encoding.specs.Encoding.{groups_of, encode}
use Rattle.varint_writing.proofs.put_number.Given as goal

abbrev pub invariant-loop-m : goal.invariant-loop-m
invariant-loop-m l =
    (k : ℕ)
    × (l.m < 128 ^ suc k)
    × (l.i + length (groups_of (suc k) l.m) ≡ l.at + length (encode l.n))
    × (sets l.out l.i (groups_of (suc k) l.m) ≡ sets l.initial.out l.at (encode l.n))

abbrev pub decreases-loop-m : goal.decreases-loop-m
decreases-loop-m l = l.m
