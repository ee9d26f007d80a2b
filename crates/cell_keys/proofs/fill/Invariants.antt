-- The keys of so many codes after the first are written.
use Rattle.std.proofs.Common.{◌≡◌, ◌+◌, ◌-◌, length, take}
use Rattle.code_entry.specs.Range.{keys_from}
use Rattle.cell_keys.specs.Writing.{key_at}
use Rattle.cell_keys.proofs.fill.Given as goal

abbrev pub invariant-loop-i : goal.invariant-loop-i
invariant-loop-i l =
    (l.key ≡ key_at l.range-inside.digits (l.range-inside.first + l.i))
    × (length l.places ≡ l.range-inside.count - 1)
    × (take l.i l.places ≡ keys_from l.range-inside.digits (l.range-inside.first + 1) l.i)
