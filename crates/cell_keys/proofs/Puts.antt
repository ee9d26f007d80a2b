-- A range put to the rising keys at the front of a slice. Assumes nothing.
-- What an entry names can be written.
use mathlib.Core.Path.{◌≡◌, refl, ap, sym, subst, ◌∙◌}
use mathlib.Core.List.{List, ◌++◌}
use Prim.Native.Nat.{ℕ, ◌+◌, ◌-◌, ◌≤◌, ◌<◌}
use native.Mathlib.Omega.{arith}
use lib.ListN.{length, get_or, take}
use lib.Seq.{sets, length-take-le}
use Rattle.slice_laws.proofs.Slices.{sets_append}
use Rattle.dial_code.proofs.Tests.{below, equal, above, order}
use Rattle.code_entry.specs.Codes.{Writable}
use Rattle.code_entry.specs.Range.{range_keys, first_key}
use Rattle.code_entry.specs.declared.CodeRange.{CodeRange}
use Rattle.code_cell.specs.Cell.{insert_all}
use Rattle.code_cell.specs.Rising.{Below, Rising}
use Rattle.code_cell.proofs.Inserts.{below_more, below_append}
use Rattle.code_cell.proofs.Orders.{put_above, longer_above}
use Rattle.std.proofs.Common.{◌⊎◌, inl, inr}
use Rattle.cell_keys.specs.Writing.{Run}
use Rattle.cell_keys.proofs.Merges.{take_split, ends_so, sets_own}

pub run_of : (r : CodeRange) → Writable r → Run r.digits r.first r.count
run_of r w = (w.some, w.few, w.least, w.within)

module _ (r : CodeRange) (w : Writable r) (old : ℕ) (l : List ℕ) where
  -- Above all that are there, if any.
  module _ (s : Rising (take old l)) (m : old ≤ length l) (o : (old ≡ 0) ⊎ (get_or l (old - 1) 0 < first_key r)) where
    all_below : Below (take old l) (first_key r)
    all_below = elim (order 0 old) [
      | below p ↦ some p o
      | equal p ↦ rw (sym p) tt
      | above p ↦ absurd (omega arith)
    ]
      where
        some : 0 < old → (old ≡ 0) ⊎ (get_or l (old - 1) 0 < first_key r) → Below (take old l) (first_key r)
        some p (inl z) = absurd (omega arith)
        some p (inr g) =
            let d = r.digits in
            let f = r.first in
            let n = r.count in
            let u = run_of r w in
            subst (λ (x : List ℕ). Below x (first_key r)) (sym (take_split d f n u old _ l p m refl s))
            (below_append (take (old - 1) l) _ _
            (below_more (take (old - 1) l) _ _ g (ends_so d f n u old _ l p m refl s).0) g)

    appended : insert_all (range_keys r) (take old l) ≡ take old l ++ range_keys r
    appended = put_above r w (take old l) all_below

    pub above_length : length (insert_all (range_keys r) (take old l)) ≡ old + r.count
    above_length = omega (arith, longer_above r w (take old l) appended, length-take-le old l m)

    pub above_words : sets l old (range_keys r) ≡ sets l 0 (insert_all (range_keys r) (take old l))
    above_words =
        let z : 0 + length (take old l) ≡ old = omega (arith, length-take-le old l m) in
        ap (λ (x : List ℕ). sets x old (range_keys r)) (sym (sets_own l old m))
        ∙ (rw z at (sets_append l 0 (take old l) (range_keys r)))
        ∙ ap (sets l 0) (sym appended)
