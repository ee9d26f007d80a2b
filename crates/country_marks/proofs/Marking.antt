-- The table of marks with one more. Assumes nothing.
use mathlib.Core.Path.{◌≡◌, refl, sym}
use mathlib.Core.List.{List}
use Prim.Native.Nat.{ℕ, ◌≤◌}
use lib.ListN.{length, length-set}
use lib.Seq.{set_out}
use Rattle.country_marks.specs.Marks.{marked}
use Rattle.std.proofs.Common.{Option, Some, None}

pub length_marked : (x : Option ℕ) (marks : List ℕ) → length (marked x marks) ≡ length marks
length_marked (Some n) marks = length-set marks n 1
length_marked None marks = refl

-- A country past the table would change nothing in it.
pub marks_past : (marks : List ℕ) (n : ℕ) → length marks ≤ n → marks ≡ marked (Some n) marks
marks_past marks n h = sym (set_out marks n 1 h)
