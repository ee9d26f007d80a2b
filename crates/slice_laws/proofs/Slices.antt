-- Parts of a slice, as the code takes and stores them. Assumes nothing.
use mathlib.Core.Path.{◌≡◌, ap, ◌∙◌}
use mathlib.Core.List.{List, [], ◌∷◌, ◌++◌, append_assoc}
use Prim.Native.Nat.{ℕ, suc, ◌+◌, ◌-◌, ◌≤◌}
use native.Mathlib.Omega.{arith}
use lib.ListN.{length, set, drop, take}
use lib.Seq.{sets, sets-eq, drop-drop}
use Rattle.std.proofs.lemmas.List.{take_rest}
use borrow.Rule.Slice.PartMut.{put_mid}

-- The rest of a slice.
pub rest : (s : List ℕ) (at : ℕ) → take (length s - at) (drop at s) ≡ drop at s
rest s at = take_rest s at

-- Stores one after the other.
pub sets_append : (l : List ℕ) (i : ℕ) (xs ys : List ℕ) → sets (sets l i xs) (i + length xs) ys ≡ sets l i (xs ++ ys)
sets_append l i [] ys = ap (λ (j : ℕ). sets l j ys) (omega arith)
sets_append l i (x ∷ xs) ys =
    ap (λ (j : ℕ). sets (sets (set l i x) (suc i) xs) j ys) (omega arith) ∙ sets_append (set l i x) (suc i) xs ys

-- Elements written over a part of a slice, as a call that takes the part leaves them.
pub written_over : {X : Type 0} (a k : ℕ) (xs ys : List X) → length ys ≡ k → a + k ≤ length xs → put_mid a k xs ys ≡ sets xs a ys
written_over {X} a k xs ys l h = rw (sets-eq ys xs a (omega arith), l, ← drop-drop k a xs, append_assoc)
