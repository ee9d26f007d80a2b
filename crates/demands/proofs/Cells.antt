-- The laws of cells of codes stated again in full: keys rise, and are those of the codes that entries name; entry by entry the same
-- is named as by the whole cell; a country cell is the same as its digits before every code; every code that an entry names is
-- allowed. Assumes nothing.
use mathlib.Core.Path.{◌≡◌, sym}
use mathlib.Core.Bool.{true, false}
use mathlib.Core.List.{List, []}
use Prim.Native.Nat.{ℕ}
use lib.ListN.{length, drop}
use Rattle.dial_code.specs.Digits.{every, is_ascii}
use Rattle.code_entry.specs.Range.{range_codes}
use Rattle.code_entry.specs.Entry.{entry_of, rest_of, all_codes, entry_codes}
use Rattle.code_entry.specs.declared.CodeRange.{CodeRange}
use Rattle.code_entry.proofs.EntryLaws.{rest_drop, codes_allowed}
use Rattle.code_cell.specs.Cell.{is_own, names_of, cell_keys, entry_keys, keys_of}
use Rattle.code_cell.specs.Rising.{Rising}
use Rattle.code_cell.specs.Rising.{holds}
use Rattle.cell_laws.specs.Names.{named}
use Rattle.cell_laws.specs.Entries.{by_entries}
use Rattle.cell_laws.specs.Prefixed.{before_codes}
use Rattle.cell_laws.proofs.CellKeys as keys
use Rattle.cell_laws.proofs.EntryByEntry as entries
use Rattle.cell_laws.proofs.CountryDigits as country
use Rattle.std.proofs.Common.{Ok}

pub rising : (c s : List ℕ) (room : ℕ) → Rising (keys_of (cell_keys c s room))
rising = keys.cell_rises

pub entry_rising : (c s : List ℕ) (room : ℕ) → Rising (keys_of (entry_keys c s room))
entry_rising = keys.entry_rises

pub exactly_named :
    (c s : List ℕ) (room : ℕ) (ks : List ℕ)
    → cell_keys c s room ≡ Ok ks
    → (k : ℕ)
    → holds k ks ≡ named (names_of c s) k
exactly_named = keys.cell_holds

pub entry_by_entry : (c s : List ℕ) (room : ℕ) → is_own c s ≡ false → cell_keys c s room ≡ by_entries c room s
entry_by_entry = entries.entry_by_entry

-- The part still to be read is the cell from the entry's end on.
pub rest_is_part : (s : List ℕ) → rest_of s ≡ drop (length (entry_of s)) s
rest_is_part s = sym (rest_drop s)

pub country_before_codes :
    (c s : List ℕ) (room : ℕ)
    → every is_ascii c ≡ true
    → is_own c s ≡ false
    → cell_keys c s room ≡ cell_keys [] (before_codes c s) room
country_before_codes = country.before_codes_law

pub every_code_allowed : (c e : List ℕ) (r : CodeRange) → entry_codes c e ≡ Ok r → all_codes (range_codes r) ≡ true
every_code_allowed = codes_allowed
