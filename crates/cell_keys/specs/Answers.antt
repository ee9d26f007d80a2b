-- The answer to the call over one entry of a cell.
use Rattle.std.specs.Prelude.{ℕ, List, length, Result, Ok, Err}
use Rattle.std.specs.Borrow.{Bor}
use Rattle.code_entry.specs.Entry.{rest_of}
use Rattle.refusal.specs.declared.Refusal.{Refusal}

-- How many keys there are, and the part of the cell still to be read: from the entry's comma on.
abbrev pub entry_read : Result (List ℕ) Refusal → List ℕ → Result (ℕ × List ℕ) Refusal
entry_read (Ok l) s = Ok (length l, rest_of s)
entry_read (Err e) s = Err e

-- the same as it is returned, with the bytes of that part
abbrev pub seen : Result (ℕ × Bor (List ℕ)) Refusal → Result (ℕ × List ℕ) Refusal
seen (Ok p) = Ok (p.0, p.1.now)
seen (Err e) = Err e
