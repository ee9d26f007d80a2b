-- Laws on groups that are read, for every count of groups together. Assumes nothing.
use mathlib.Core.Path.{◌≡◌, refl, sym}
use mathlib.Core.Bool.{Bool, true, false, cond}
use mathlib.Core.List.{List, ◌∷◌}
use Prim.Native.Nat.{ℕ, suc, ◌+◌, ◌*◌, ◌%◌, ◌≤◌, ◌<◌}
use native.Mathlib.Omega.{arith}
use borrow.Author.Tests.{lt-ltb, le-ltb, ne_eqb, eqb-false}
use lib.Dec.{eqb}
use Rattle.varint.specs.Reading.{above, groups}
use Rattle.refusal.specs.declared.Refusal.TheVariants.{NotShortest}
use Rattle.refusal.proofs.ReadParts.{apart, same_read}
use Rattle.refusal.specs.Steps.{Read, ok_at}
use Rattle.std.proofs.Common.{Ok, Err}

-- Reading: a byte that is the last, one that is not, and what a group makes of the groups after it.
pub read_last : (k b : ℕ) (s : List ℕ) → b < 128 → groups (suc k) (b ∷ s) ≡ ok_at b 1
unfolding groups
read_last k b s h = simp (lt-ltb _ _ h)

pub read_on : (k b : ℕ) (s : List ℕ) → 128 ≤ b → groups (suc k) (b ∷ s) ≡ above (b % 128) (groups k s)
unfolding groups
read_on k b s h = simp (le-ltb _ _ h)

pub above_value : (low n size : ℕ) → 0 < n → above low (ok_at n size) ≡ ok_at (low + 128 * n) (size + 1)
unfolding above
above_value low n size h = simp (ne_eqb n 0 (λ e. omega arith))

pub record Above (low n size : ℕ) (x : Read ℕ) : Type 0 where
  pub high : ℕ
  pub rest : ℕ
  pub value : x ≡ ok_at high rest
  pub some : 0 < high
  pub sum : n ≡ low + 128 * high
  pub one : size ≡ rest + 1

pub above_so : (low n size : ℕ) (x : Read ℕ) → above low x ≡ ok_at n size → Above low n size x
unfolding above
above_so low n size (Ok (m, z)) e = go (eqb m 0) refl e
  where
    go : (t : Bool) → eqb m 0 ≡ t → cond t (Err NotShortest) (ok_at (low + 128 * m) (z + 1)) ≡ ok_at n size → Above low n size (ok_at m z)
    go true q p = absurd (apart (sym p))
    go false q p = record { high = m; rest = z; value = refl; some = omega (arith, eqb-false m 0 q); sum = sym (same_read p).0; one = sym (same_read p).1 }
above_so low n size (Err r) e = absurd (apart (sym e))
