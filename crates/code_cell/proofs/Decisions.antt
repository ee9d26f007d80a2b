-- What a cell is refused for: 52 where the keys of the entries before the first refused one are too many, else that one's cause.
-- Assumes nothing.
-- A refusal has a number.
use mathlib.Core.Path.{◌≡◌}
use mathlib.Core.Bool.{cond}
use mathlib.Core.List.{List, [], ◌∷◌}
use Prim.Native.Nat.{ℕ, ◌≤◌}
use native.Mathlib.Omega.{arith}
use borrow.Author.Tests.{lt-ltb, le-ltb}
use lib.Dec.{ltb}
use lib.ListN.{length}
use Rattle.dial_code.proofs.Tests.{below, equal, above, order}
use Rattle.code_entry.specs.Range.{range_keys}
use Rattle.code_entry.specs.declared.CodeRange.{CodeRange}
use Rattle.code_cell.specs.Cell.{insert_all, keys_named}
use Rattle.code_cell.specs.Count.{outcome, all_keys}
use Rattle.code_cell.specs.Reading.{good_ranges}
use Rattle.code_cell.proofs.Inserts.{all_longer}
use Rattle.refusal.specs.declared.Refusal.TheVariants.{KeysTooMany}
use Rattle.refusal.specs.Steps.{◌>>=◌}
use Rattle.refusal.specs.declared.Refusal.{Refusal}
use Rattle.std.proofs.Common.{Result, Ok, Err}

-- None of the keys so far is lost.
pub keys_longer : (l : List ℕ) (rs : List CodeRange) → length l ≤ length (all_keys l rs)
unfolding all_keys
keys_longer l [] = omega arith
keys_longer l (r ∷ rs) =
    omega (arith, all_longer (range_keys r) l, keys_longer (insert_all (range_keys r) l) rs)

-- The decision, from all good ranges' keys and whether all entries can be read.
abbrev pub decision : ℕ → List ℕ → Result (Unit {0}) Refusal → Result (List ℕ) Refusal
decision room ks x = cond (ltb room (length ks)) (Err KeysTooMany) (x >>= (λ done. Ok ks))

pub decided :
    (room : ℕ) (l : List ℕ) (ns : List (Result CodeRange Refusal)) → length l ≤ room
    → keys_named room l ns ≡ decision room (all_keys l (good_ranges ns)) (outcome ns)
unfolding keys_named good_ranges outcome all_keys
decided room l [] h = rw (le-ltb room (length l) h)
decided room l (Err e ∷ ns) h = rw (le-ltb room (length l) h)
decided room l (Ok r ∷ ns) h =
    let m = insert_all (range_keys r) l in
    elim (order room (length m)) [
      | below o ↦
          rw (lt-ltb room (length m) o, lt-ltb room (length (all_keys m (good_ranges ns))) (omega (arith, keys_longer m (good_ranges ns))))
      | equal o ↦ rw (le-ltb room (length m) (omega arith)) (decided room m ns (omega arith))
      | above o ↦ rw (le-ltb room (length m) (omega arith)) (decided room m ns (omega arith))
    ]
